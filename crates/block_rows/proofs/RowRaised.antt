-- A lobe joined to a row of bins: where it reaches bins of the row its openings are joined to them,
-- and the others are as they were. Assumes nothing.
use mathlib.Core.Path.{◌≡◌, refl, sym, ap, ◌∙◌, subst}
use mathlib.Core.Bool.{Bool, true, false, cond}
use mathlib.Core.Logic.{inl, inr}
use mathlib.Core.List.{List}
use Prim.Native.Nat.{ℕ, ◌+◌, ◌-◌, ◌≤◌, ◌<◌, min, max}
use native.Mathlib.Decide.{dec_lt}
use native.Mathlib.Omega.{arith}
use lib.Dec.{T, lit≤}
use lib.ListN.{length, get_or}
use lib.Seq.{ext_get_or}
use lib.Ieee.{Float, nan, binary32, le}
use Rattle.lists.specs.Runs.{map-none, map_same}
use Rattle.lists.specs.Maps.{map_range, between, between_in, between-low, between-high, get_or-map_range, length-map_range}
use Rattle.float_laws.specs.Rise.{Upto, upto-weaken}
use Rattle.float32.specs.Order.{maximum}
use Rattle.float32.specs.Remainder.{one}
use Rattle.blocks.specs.Least.{Numbers}
use Rattle.lobes.specs.declared.Grid.{Grid}
use Rattle.lobes.specs.declared.Lobe.{Lobe}
use Rattle.lobes.specs.Distance.{lent}
use Rattle.lobes.specs.Lobe.{opening}
use Rattle.lobe_bounds.specs.Bound.{Measured}
use Rattle.lobe_bounds.proofs.Bounded.{opening-in-unit}
use Rattle.lobe_joins.specs.Joined.{joined, lobe_joined}
use Rattle.lobe_joins.proofs.Maxima.{le_join, where-join}
use Rattle.lobe_joins.proofs.Highest.{keeps-higher}
use Rattle.lobe_joins.proofs.RowJoined.{reaches, opens, row_step}
use Rattle.lobe_joins.proofs.Reached.{lobe-there, lobe-away}
use Rattle.block_rows.specs.Most.{Bounded, Opennesses}
use Rattle.block_rows.proofs.Held.{open-numbers}

-- ---- places of a row and of the chunk that is joined to it
from-there : (a s k : ℕ) → s ≤ a → a - s ≤ k → a ≤ s + k
from-there a s k h p = omega arith

below-there : (b s k : ℕ) → k < b - s → s + k < b
below-there b s k h = omega arith

bin-of : (a s k : ℕ) → s ≤ a → a ≤ s + k → a + (k - (a - s)) ≡ s + k
bin-of a s k h p = omega arith

in-chunk : (a b s k : ℕ) → s ≤ a → a ≤ s + k → s + k < b → k - (a - s) < b - a
in-chunk a b s k h p q = omega arith

module _ (grid : Grid) (table : List Float) (lobe : Lobe) (start end : ℕ) where
  -- at a place of the row
  abbrev pub in_row : ℕ → Float → Float
  in_row k held = lobe_joined grid (lent table) one (start + k) held lobe

  -- the part of the row that the lobe reaches
  abbrev from : ℕ
  from = max lobe.first_bin start

  abbrev to : ℕ
  to = min (lobe.last_bin + 1) end

  not-reached : (k : ℕ) (held : Float) → start + k < from → between 0 (end - start) in_row k held ≡ held
  not-reached k held p = go (dec_lt k (end - start))
    where
      go : Dec (k < end - start) → between 0 (end - start) in_row k held ≡ held
      go (yes q) = between_in in_row 0 (end - start) k held (omega arith) q ∙ lobe-away grid (lent table) one (start + k) held lobe (inl (omega arith))
      go (no q) = between-high in_row 0 (end - start) k held (omega arith)

  passed : (k : ℕ) (held : Float) → start ≤ end → to ≤ start + k → between 0 (end - start) in_row k held ≡ held
  passed k held e p = go (dec_lt k (end - start))
    where
      go : Dec (k < end - start) → between 0 (end - start) in_row k held ≡ held
      go (yes q) = between_in in_row 0 (end - start) k held (omega arith) q ∙ lobe-away grid (lent table) one (start + k) held lobe (inr (omega arith))
      go (no q) = between-high in_row 0 (end - start) k held (omega arith)

  -- none of its bins is in the row
  pub row_kept : (xs : List Float) → start ≤ end → to ≤ from → xs ≡ map_range in_row 0 (end - start) xs
  row_kept xs e h = sym (map_same (between 0 (end - start) in_row) (λ k x. x) xs (λ k x p. at k x (dec_lt (start + k) from)) ∙ map-none xs)
    where
      at : (k : ℕ) (x : Float) → Dec (start + k < from) → between 0 (end - start) in_row k x ≡ x
      at k x (yes p) = not-reached k x p
      at k x (no p) = passed k x e (omega arith)

  pub row-raised : (before chunk : List Float) → start ≤ end → from < to → to - from ≤ length before → chunk ≡ map_range (λ k held. opening grid (lent table) lobe (from + k)) 0 (to - from) before
      → (xs : List Float) {ys : List Float} → ys ≡ map_range (λ k held. joined one held (get_or chunk (k - (from - start)) nan)) (from - start) (to - start) xs → ys ≡ map_range in_row 0 (end - start) xs
  row-raised before chunk e h room is xs {ys} w =
      w ∙ map_same (between (from - start) (to - start) from-chunk) (between 0 (end - start) in_row) xs (λ k x p. at k x (dec_lt k (from - start)) (dec_lt k (to - start)))
    where
      from-chunk : ℕ → Float → Float
      from-chunk k held = joined one held (get_or chunk (k - (from - start)) nan)

      read : (k : ℕ) → k < to - from → get_or chunk k nan ≡ opening grid (lent table) lobe (from + k)
      read k q =
          let f : ℕ → Float → Float = λ k held. opening grid (lent table) lobe (from + k) in
          ap (λ l. get_or l k nan) is ∙ get_or-map_range f 0 (to - from) before k nan (omega arith) ∙ between_in f 0 (to - from) k (get_or before k nan) (omega arith) q

      at : (k : ℕ) (x : Float) → Dec (k < from - start) → Dec (k < to - start) → between (from - start) (to - start) from-chunk k x ≡ between 0 (end - start) in_row k x
      at k x (yes p) q = between-low from-chunk (from - start) (to - start) k x p ∙ sym (not-reached k x (omega arith))
      at k x (no p) (yes q) =
          let a : start ≤ from = omega arith in
          let b : from ≤ start + k = from-there from start k a (omega arith) in
          let c : start + k < to = below-there to start k q in
          between_in from-chunk (from - start) (to - start) k x (omega arith) q
          ∙ ap (joined one x) (read (k - (from - start)) (in-chunk from to start k a b c) ∙ ap (opening grid (lent table) lobe) (bin-of from start k a b))
          ∙ sym (between_in in_row 0 (end - start) k x (omega arith) (omega arith) ∙ lobe-there grid (lent table) one (start + k) x lobe (omega arith) (omega arith))
      at k x (no p) (no q) = between-high from-chunk (from - start) (to - start) k x (omega arith) ∙ sym (passed k x e (omega arith))

  -- a lobe that changes nothing at any place of the row
  pub row_same : (xs : List Float) → ((k : ℕ) → k < length xs → k < end - start → in_row k (get_or xs k nan) ≡ get_or xs k nan) → xs ≡ map_range in_row 0 (end - start) xs
  row_same xs e =
      ext_get_or nan xs (map_range in_row 0 (end - start) xs) (sym (length-map_range in_row 0 (end - start) xs))
      (λ k h. sym (get_or-map_range in_row 0 (end - start) xs k nan h ∙ at k h (dec_lt k (end - start))))
    where
      at : (k : ℕ) → k < length xs → Dec (k < end - start) → between 0 (end - start) in_row k (get_or xs k nan) ≡ get_or xs k nan
      at k h (yes q) = between_in in_row 0 (end - start) k (get_or xs k nan) (omega arith) q ∙ e k h q
      at k h (no q) = between-high in_row 0 (end - start) k (get_or xs k nan) (omega arith)

  -- a lobe that is not above what a place holds, where it reaches it
  pub place_same : (k : ℕ) {held : Float} → Upto binary32 3 held → Measured grid lobe → (T (reaches grid table (start + k) lobe) → T (le (opens grid table (start + k) lobe) held)) → in_row k held ≡ held
  place_same k {held} u m l =
      let o = opening-in-unit grid lobe m table (start + k) in
      row_step grid table (start + k) held lobe o ∙ kept (reaches grid table (start + k) lobe) (λ t. keeps-higher u (upto-weaken binary32 (lit≤ tt) o) (l t))
    where
      kept : (c : Bool) → (T c → maximum held (opens grid table (start + k) lobe) ≡ held) → cond c (maximum held (opens grid table (start + k) lobe)) held ≡ held
      kept true e = e tt
      kept false e = refl

  -- a lobe whose bound is nowhere above the row
  pub row-above : (xs : List Float) → Opennesses xs → Measured grid lobe → (bound : Float) → Upto binary32 0 bound → Bounded grid table lobe bound start end
      → ((k : ℕ) → k < length xs → T (le bound (get_or xs k nan))) → xs ≡ map_range in_row 0 (end - start) xs
  row-above xs u m bound v b l =
      row_same xs
      (λ k h q. place_same k (u k h) m
      (λ t. le_join (upto-weaken binary32 (lit≤ tt) (opening-in-unit grid lobe m table (start + k))) (upto-weaken binary32 (lit≤ tt) v) (u k h) (b (start + k) (omega arith) (omega arith)) (l k h)))

  -- the row holds opennesses still
  pub row_open : (xs : List Float) → Opennesses xs → Measured grid lobe → Opennesses (map_range in_row 0 (end - start) xs)
  row_open xs u m k h =
      let l : k < length xs = omega (arith, length-map_range in_row 0 (end - start) xs) in
      rw (get_or-map_range in_row 0 (end - start) xs k nan l) (at l (dec_lt k (end - start)))
    where
      step : Upto binary32 3 (get_or xs k nan) → Upto binary32 3 (in_row k (get_or xs k nan))
      step v =
          let o = opening-in-unit grid lobe m table (start + k) in
          rw (row_step grid table (start + k) (get_or xs k nan) lobe o) ((where-join (reaches grid table (start + k)) (opens grid table (start + k))).keeps (get_or xs k nan) lobe (λ t. upto-weaken binary32 (lit≤ tt) o) v)

      at : k < length xs → Dec (k < end - start) → Upto binary32 3 (between 0 (end - start) in_row k (get_or xs k nan))
      at l (yes q) = rw (between_in in_row 0 (end - start) k (get_or xs k nan) (omega arith) q) (step (u k l))
      at l (no q) = rw (between-high in_row 0 (end - start) k (get_or xs k nan) (omega arith)) (u k l)

  pub raised-open : (xs : List Float) {ys : List Float} → ys ≡ map_range in_row 0 (end - start) xs → Opennesses xs → Measured grid lobe → Opennesses ys
  raised-open xs e u m = subst Opennesses (sym e) (row_open xs u m)

  pub raised-numbers : (lo hi : ℕ) (xs : List Float) {ys : List Float} → ys ≡ map_range in_row 0 (end - start) xs → Opennesses xs → Measured grid lobe → Numbers lo hi ys
  raised-numbers lo hi xs {ys} e u m = open-numbers lo hi ys (raised-open xs e u m)
