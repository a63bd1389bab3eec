-- Halving a row keeps what lies below all of it: a number not above the first half of the halved
-- row is not above any entry of the row, and each of the half is an entry of the row. Assumes
-- nothing.
use mathlib.Core.Path.{◌≡◌, refl, sym, ap, subst, ◌∙◌}
use mathlib.Core.Bool.{Bool, true, false, cond}
use mathlib.Core.List.{List}
use Prim.Native.Nat.{ℕ, ◌+◌, ◌-◌, ◌≤◌, ◌<◌}
use native.Mathlib.Decide.{dec_lt}
use native.Mathlib.Omega.{arith}
use lib.Dec.{T}
use lib.ListN.{length, get_or}
use lib.Ieee.{Float, nan, binary32, lt, le}
use Rattle.lists.specs.Maps.{map_range, between_in, between-high, length-map_range, get_or-map_range}
use Rattle.lists.specs.Turned.{Turned}
use Rattle.float_laws.specs.Units.{number}
use Rattle.float_laws.specs.Order.{smaller, smaller-number, smaller-left, smaller-right, le-trans-f, le-refl-f}
use Rattle.blocks.specs.Least.{Numbers, Held, Least}

-- an entry that a loop has not reached is what it was
pub unreached : {A : Type 0} (d : A) {g : ℕ → A → A} {lo : ℕ} {xs₀ xs : List A} {i : ℕ} (j : ℕ) → Turned g lo xs₀ xs i → i ≤ j → j < length xs₀
    → get_or xs j d ≡ get_or xs₀ j d
unreached d {g} {lo} {xs₀} {xs} {i} j t h b =
    ap (λ l. get_or l j d) t.is ∙ get_or-map_range g lo i xs₀ j d b ∙ between-high g lo i j (get_or xs₀ j d) h

-- the first n entries of ys are numbers and entries of xs, and what is not above any of them is not
-- above any entry of xs
pub record Covers (n : ℕ) (xs ys : List Float) : Type 0 where
  pub room : n ≤ length ys
  pub numbers : (k : ℕ) → k < n → T (number binary32 (get_or ys k nan))
  pub held : (k : ℕ) → k < n → Held (get_or ys k nan) 0 (length xs) xs
  pub below : (r : Float) → T (number binary32 r) → ((k : ℕ) → k < n → T (le r (get_or ys k nan))) → (j : ℕ) → j < length xs → T (le r (get_or xs j nan))

held-smaller : (x y : Float) {lo hi : ℕ} {xs : List Float} → Held x lo hi xs → Held y lo hi xs → Held (smaller x y) lo hi xs
held-smaller x y {lo} {hi} {xs} p q = go (lt y x)
  where
    go : (b : Bool) → Held (cond b y x) lo hi xs
    go true = q
    go false = p

itself : (xs : List Float) (k : ℕ) → k < length xs → Held (get_or xs k nan) 0 (length xs) xs
itself xs k h = record { place = k; from = omega arith; below = h; within = h; is = refl }

abbrev halved : ℕ → List Float → List Float
halved n xs = map_range (λ k held. smaller held (get_or xs (k + n) nan)) 0 n xs

-- before the first halving
pub covers-all : (n : ℕ) {xs : List Float} → length xs ≡ n → Numbers 0 n xs → Covers n xs xs
covers-all n {xs} l w =
    record { room = omega (arith, l); numbers = λ k h. w k (omega arith) h (omega (arith, l)); held = λ k h. itself xs k (omega (arith, l)); below = λ r p h j b. h j (omega (arith, l)) }

-- one halving
pub covers-half : (n : ℕ) {xs ys zs : List Float} → Covers (n + n) xs ys → zs ≡ halved n ys → Covers n xs zs
covers-half n {xs} {ys} {zs} c e =
    record {
      room = omega (arith, ap length e, length-map_range (λ k held. smaller held (get_or ys (k + n) nan)) 0 n ys, c.room);
      numbers = λ k h. subst (λ z. T (number binary32 z)) (sym (at k h)) (smaller-number binary32 (y k) (y (k + n)) (first k h) (second k h));
      held = λ k h. subst (λ z. Held z 0 (length xs) xs) (sym (at k h)) (held-smaller (y k) (y (k + n)) (c.held k (omega arith)) (c.held (k + n) (omega arith)));
      below = λ r p h. c.below r p (λ k b. go r p h k b (dec_lt k n));
    }
  where
    y : ℕ → Float
    y k = get_or ys k nan

    at : (k : ℕ) → k < n → get_or zs k nan ≡ smaller (y k) (y (k + n))
    at k h =
        ap (λ l. get_or l k nan) e
        ∙ get_or-map_range (λ k held. smaller held (get_or ys (k + n) nan)) 0 n ys k nan (omega (arith, c.room))
        ∙ between_in (λ k held. smaller held (get_or ys (k + n) nan)) 0 n k (y k) (omega arith) h

    first : (k : ℕ) → k < n → T (number binary32 (y k))
    first k h = c.numbers k (omega arith)

    second : (k : ℕ) → k < n → T (number binary32 (y (k + n)))
    second k h = c.numbers (k + n) (omega arith)

    below-least : (r : Float) → T (number binary32 r) → ((k : ℕ) → k < n → T (le r (get_or zs k nan))) → (k : ℕ) → k < n → T (le r (smaller (y k) (y (k + n))))
    below-least r p h k b = subst (λ z. T (le r z)) (at k b) (h k b)

    to-first : (r : Float) → T (number binary32 r) → (k : ℕ) → k < n → T (le r (smaller (y k) (y (k + n)))) → T (le r (y k))
    to-first r p k b h =
        le-trans-f binary32 r (smaller (y k) (y (k + n))) (y k) p (smaller-number binary32 (y k) (y (k + n)) (first k b) (second k b)) (first k b) h
        (smaller-left binary32 (y k) (y (k + n)) (first k b) (second k b))

    to-second : (r : Float) → T (number binary32 r) → (k : ℕ) → k < n → T (le r (smaller (y k) (y (k + n)))) → T (le r (y (k + n)))
    to-second r p k b h =
        le-trans-f binary32 r (smaller (y k) (y (k + n))) (y (k + n)) p (smaller-number binary32 (y k) (y (k + n)) (first k b) (second k b)) (second k b) h
        (smaller-right binary32 (y k) (y (k + n)) (first k b) (second k b))

    go : (r : Float) → T (number binary32 r) → ((k : ℕ) → k < n → T (le r (get_or zs k nan))) → (k : ℕ) → k < n + n → Dec (k < n) → T (le r (y k))
    go r p h k b (yes q) = to-first r p k q (below-least r p h k q)
    go r p h k b (no q) =
        let i : k - n + n ≡ k = omega arith in
        subst (λ z. T (le r (y z))) i (to-second r p (k - n) (omega arith) (below-least r p h (k - n) (omega arith)))

-- after the last
pub covers_one : {xs ys : List Float} (hi : ℕ) → length xs ≡ hi → Covers 1 xs ys → Least (get_or ys 0 nan) 0 hi xs
covers_one {xs} {ys} hi l c =
    record {
      is_number = only;
      least = λ k a b w. c.below (get_or ys 0 nan) only (λ j h. first j h) k w;
      held = λ a b. subst (λ z. Held (get_or ys 0 nan) 0 z xs) l (c.held 0 (omega arith));
    }
  where
    only : T (number binary32 (get_or ys 0 nan))
    only = c.numbers 0 (omega arith)

    first : (j : ℕ) → j < 1 → T (le (get_or ys 0 nan) (get_or ys j nan))
    first j h = let z : j ≡ 0 = omega arith in rw z (le-refl-f binary32 (get_or ys 0 nan) only)
