-- Taking an entry out of the first n of a list that keeps its length: from its place on each place
-- gets the entry of the next, so that the first n - 1 are then the others in their order. Assumes
-- nothing.
use Rattle.std.specs.Prelude.{◌≡◌, take}
use Rattle.std.proofs.Math.Path.{sym, ap}
use Rattle.std.proofs.Common.{◌∙◌, ext_get_or}
use mathlib.Core.List.{List, [], ◌∷◌, ◌++◌, map}
use Prim.Native.Nat.{ℕ, zero, suc, ◌+◌, ◌-◌, ◌≤◌, ◌<◌}
use Rattle.std.proofs.Math.Decide.{dec_lt}
use native.Mathlib.Omega.{arith}
use Rattle.std.proofs.Math.ListN.{length, get_or, drop, length-append, length-drop, get_or-append}
use Rattle.std.proofs.Math.Seq.{length-take-le, get_or-take, get_or-drop, get_or-append-add}
use Rattle.std.specs.List.{CopiedTo, SameBelow, SameFrom}
use Rattle.lists.specs.Maps.{map_range, between_in, between-low, between-high, length-map_range}
use Rattle.lists.specs.Maps.{get_or-map_range}
use Rattle.lists.specs.Totals.{All}
use Rattle.lists.specs.Mapped.{map-append, map-take, map-drop}

module _ {A : Type 0} where
  -- each place from p on and below n gets the entry of the next; d stands past the list's end, and
  -- does not count where n is below its length
  abbrev pub closed : A → ℕ → ℕ → List A → List A
  closed d p n xs = map_range (λ k x. get_or xs (k + 1) d) p n xs

  -- a list without its entry at p
  unfoldable pub without : ℕ → List A → List A
  without p xs = take p xs ++ drop (suc p) xs

  pub length_without : (p : ℕ) (xs : List A) → p < length xs → length (without p xs) ≡ length xs - 1
  unfolding without
  length_without p xs h =
      omega (
        arith,
        length-append (take p xs) (drop (suc p) xs),
        length-take-le p xs (omega arith),
        length-drop (suc p) xs,
      )

  pub all_without : (P : A → Type 0) (p : ℕ) (xs : List A) → All P xs → All P (without p xs)
  unfolding without
  all_without P zero [] h = tt
  all_without P zero (x ∷ xs) h = h.1
  all_without P (suc p) [] h = tt
  all_without P (suc p) (x ∷ xs) h = (h.0, all_without P p xs h.1)

  module _ (d : A) (xs : List A) (p n : ℕ) (l : p < n) (m : n ≤ length xs) where
    abbrev first : List A
    first = take n xs

    len : length first ≡ n
    len = length-take-le n xs m

    long : length (closed d p (n - 1) xs) ≡ length xs
    long = length-map_range (λ k x. get_or xs (k + 1) d) p (n - 1) xs

    front : length (take p first) ≡ p
    front = length-take-le p first (omega (arith, len))

    entry : (k : ℕ) → k < n - 1 → Dec (k < p)
        → get_or (closed d p (n - 1) xs) k d ≡ get_or (without p first) k d
    unfolding without
    entry k h (yes below) =
        get_or-map_range (λ k x. get_or xs (k + 1) d) p (n - 1) xs k d (omega arith)
        ∙ between-low (λ k x. get_or xs (k + 1) d) p (n - 1) k (get_or xs k d) below
        ∙ sym
        (get_or-append (take p first) (drop (suc p) first) d k (omega (arith, front))
        ∙ get_or-take p first k d below
        ∙ get_or-take n xs k d (omega arith))
    entry k h (no above) =
        let e : k ≡ length (take p first) + (k - p) = omega (arith, front) in
        let f : suc p + (k - p) ≡ k + 1 = omega arith in
        get_or-map_range (λ k x. get_or xs (k + 1) d) p (n - 1) xs k d (omega arith)
        ∙ between_in (λ k x. get_or xs (k + 1) d) p (n - 1) k (get_or xs k d) (omega arith) h
        ∙ sym
        (ap (λ j. get_or (take p first ++ drop (suc p) first) j d) e
        ∙ get_or-append-add (take p first) (drop (suc p) first) (k - p) d
        ∙ get_or-drop (suc p) first (k - p) d
        ∙ ap (λ j. get_or first j d) f
        ∙ get_or-take n xs (k + 1) d (omega arith))

    pub take-closed : take (n - 1) (closed d p (n - 1) xs) ≡ without p (take n xs)
    take-closed =
        let fits : length (take (n - 1) (closed d p (n - 1) xs)) ≡ n - 1 =
        length-take-le (n - 1) (closed d p (n - 1) xs) (omega (arith, long)) in
        let other : length (without p first) ≡ n - 1 =
        length_without p first (omega (arith, len)) ∙ ap (λ j. j - 1) len in
        ext_get_or d (take (n - 1) (closed d p (n - 1) xs)) (without p first) (fits ∙ sym other)
        (λ k h. get_or-take (n - 1) (closed d p (n - 1) xs) k d (omega (arith, fits))
        ∙ entry k (omega (arith, fits)) (dec_lt k p))

-- what is left where the entries after p, up to n, are copied to the places from p on
module _ {A : Type 0} (d : A) (xs ys : List A) (p n : ℕ) (l : p < n) where
  pub copied-closed :
      length ys ≡ length xs → CopiedTo xs ys (p + 1) p (n - (p + 1)) → SameBelow xs ys p
      → SameFrom xs ys (p + (n - (p + 1))) → ys ≡ closed d p (n - 1) xs
  copied-closed same moved low high =
      ext_get_or d ys (closed d p (n - 1) xs)
      (same ∙ sym (length-map_range (λ k x. get_or xs (k + 1) d) p (n - 1) xs))
      (λ k h. at k (omega (arith, same, h)) (dec_lt k p) (dec_lt k (n - 1)))
    where
      g : ℕ → A → A
      g k x = get_or xs (k + 1) d

      at : (k : ℕ) → k < length xs → Dec (k < p) → Dec (k < n - 1)
          → get_or ys k d ≡ get_or (closed d p (n - 1) xs) k d
      at k h (yes below) _ =
          low k d below
          ∙ sym
          (get_or-map_range g p (n - 1) xs k d h
          ∙ between-low g p (n - 1) k (get_or xs k d) below)
      at k h (no from) (yes below) =
          let e : p + 1 + (k - p) ≡ k + 1 = omega arith in
          moved k d (omega arith) (omega arith)
          ∙ ap (λ j. get_or xs j d) e
          ∙ sym
          (get_or-map_range g p (n - 1) xs k d h
          ∙ between_in g p (n - 1) k (get_or xs k d) (omega arith) below)
      at k h (no from) (no above) =
          high k d (omega arith)
          ∙ sym
          (get_or-map_range g p (n - 1) xs k d h
          ∙ between-high g p (n - 1) k (get_or xs k d) (omega arith))

pub map-without :
    {A B : Type 0} (g : A → B) (p : ℕ) (xs : List A) → map g (without p xs) ≡ without p (map g xs)
unfolding without
map-without g p xs =
    map-append g (take p xs) (drop (suc p) xs)
    ∙ ap (λ l. l ++ map g (drop (suc p) xs)) (map-take g p xs)
    ∙ ap (λ l. take p (map g xs) ++ l) (map-drop g (suc p) xs)
