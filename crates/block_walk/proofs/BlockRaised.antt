-- A block of bins under several lobes: the most that one of them opens, joined once, is what they
-- hold joined one after the other; and a block where no bound under the gain is above what a bin
-- holds stays as it is. Assumes nothing.
use mathlib.Core.Path.{◌≡◌, sym, ap, ◌∙◌, subst}
use mathlib.Core.List.{List}
use Prim.Native.Nat.{ℕ, ◌+◌, ◌-◌, ◌≤◌, ◌<◌}
use native.Mathlib.Decide.{dec_lt}
use native.Mathlib.Omega.{arith}
use lib.Dec.{T, lit≤}
use lib.ListN.{length, get_or, take}
use lib.Seq.{ext_get_or, get_or-take, length-take-le}
use lib.Ieee.{Float, nan, binary32, le, mul}
use Rattle.lists.specs.Maps.{map_range, between, between_in, between-low, between-high, get_or-map_range, length-map_range}
use Rattle.lists.specs.Stages.{range-held}
use Rattle.lists.specs.Entries.{all-places}
use Rattle.float_laws.specs.Mono.{mul-mono-l}
use Rattle.float_laws.specs.Rise.{Upto, upto-weaken, upto-mul}
use Rattle.float32.specs.Remainder.{zero}
use Rattle.lobes.specs.declared.Grid.{Grid}
use Rattle.lobes.specs.declared.Lobe.{Lobe}
use Rattle.lobes.specs.Distance.{lent}
use Rattle.lobe_bounds.specs.Bound.{GreatestAt}
use Rattle.lobe_joins.specs.Joined.{joined, no_lobe, lobes_joined}
use Rattle.lobe_joins.proofs.Maxima.{zero-unit, nothing-open, zero-least, le_join, BelowWhere}
use Rattle.lobe_joins.proofs.Highest.{keeps-higher, highest-in-unit, highest-least}
use Rattle.lobe_joins.proofs.RowJoined.{reaches, opens, row-run}
use Rattle.block_rows.specs.Most.{most_open, SoundLobes, Opennesses, BoundedLobes, HasMost, NotAbove}
use Rattle.block_walk.proofs.CompactIsPlain.{compact-is-plain}
use Rattle.block_rows.proofs.MostOpen.{lobe-in-unit, all-in-unit}

-- a function that changes none of a range's entries
range-kept : (g : ℕ → Float → Float) (lo hi : ℕ) (xs : List Float) → ((k : ℕ) → k < length xs → lo ≤ k → k < hi → g k (get_or xs k nan) ≡ get_or xs k nan) → xs ≡ map_range g lo hi xs
range-kept g lo hi xs e =
    ext_get_or nan xs (map_range g lo hi xs) (sym (length-map_range g lo hi xs)) (λ k h. sym (get_or-map_range g lo hi xs k nan h ∙ same k h (dec_lt k lo) (dec_lt k hi)))
  where
    same : (k : ℕ) → k < length xs → Dec (k < lo) → Dec (k < hi) → between lo hi g k (get_or xs k nan) ≡ get_or xs k nan
    same k h (yes p) q = between-low g lo hi k (get_or xs k nan) p
    same k h (no p) (yes q) = between_in g lo hi k (get_or xs k nan) (omega arith) q ∙ e k h (omega arith) q
    same k h (no p) (no q) = between-high g lo hi k (get_or xs k nan) (omega arith)

module _ (grid : Grid) (table : List Float) (lobes : List Lobe) (count : ℕ) (sound : SoundLobes grid lobes count) (few : count ≤ length lobes) where
  abbrev most : ℕ → Float
  most bin = most_open grid (lent table) (take count lobes) bin

  pub most-in-unit : (bin : ℕ) → Upto binary32 0 (most bin)
  unfolding lobes_joined
  most-in-unit bin =
      let all = all-in-unit grid table lobes count sound few bin in
      subst (Upto binary32 0) (sym (row-run grid table bin zero (take count lobes) all)) (highest-in-unit (reaches grid table bin) (opens grid table bin) zero (take count lobes) zero-unit all)

  -- ---- the row joined to a side
  pub block-joined : (row : List Float) (start end : ℕ) {gain : Float} → Upto binary32 3 gain → HasMost grid table (take count lobes) start end row → (xs : List Float) → Opennesses xs
      → {ys : List Float} → ys ≡ map_range (λ bin held. joined gain held (get_or row (bin - start) nan)) start end xs → ys ≡ map_range (lobes_joined grid (lent table) gain (take count lobes)) start end xs
  block-joined row start end {gain} g e xs u {ys} w =
      w ∙ range-held nan (λ bin held. joined gain held (get_or row (bin - start) nan)) (lobes_joined grid (lent table) gain (take count lobes)) start end xs at
    where
      at : (k : ℕ) → k < length xs → start ≤ k → k < end → joined gain (get_or xs k nan) (get_or row (k - start) nan) ≡ lobes_joined grid (lent table) gain (take count lobes) k (get_or xs k nan)
      at k h p q =
          let z : start + (k - start) ≡ k = omega arith in
          ap (joined gain (get_or xs k nan)) (e (k - start) (subst (λ n. n < end) (sym z) q) ∙ ap most z)
          ∙ sym (compact-is-plain grid table k (take count lobes) (all-in-unit grid table lobes count sound few k) (u k h) g)

  -- ---- no bound is above
  module _ (bounds : List Float) (start end top : ℕ) (held : BoundedLobes grid table lobes count bounds start end)
      (greatest : GreatestAt bounds count top) where
    abbrev bound : Float
    bound = get_or bounds top nan

    wide : {x : Float} → Upto binary32 0 x → Upto binary32 3 x
    wide u = upto-weaken binary32 (lit≤ tt) u

    lobe-below : (bin : ℕ) → start ≤ bin → bin < end → (p : ℕ) → p < count → T (le (opens grid table bin (get_or lobes p no_lobe)) bound)
    lobe-below bin l h p q =
        le_join (wide (lobe-in-unit grid table lobes count sound few bin p q)) (wide (held p q).0) (wide (held top greatest.0).0) ((held p q).1 bin l h) (greatest.1 p q)

    most-below : (bin : ℕ) → start ≤ bin → bin < end → T (le (most bin) bound)
    unfolding lobes_joined
    most-below bin l h =
        let all = all-in-unit grid table lobes count sound few bin in
        let b = wide (held top greatest.0).0 in
        rw (row-run grid table bin zero (take count lobes) all)
        (highest-least (reaches grid table bin) (opens grid table bin) zero (take count lobes) bound nothing-open all b (zero-least b)
        (all-places (λ x. BelowWhere (reaches grid table bin) (opens grid table bin) x bound) no_lobe (take count lobes)
        (λ i k t. let q = subst (λ n. i < n) (length-take-le count lobes few) k in subst (λ (x : Lobe). T (le (opens grid table bin x) bound)) (sym (get_or-take count lobes i no_lobe q)) (lobe-below bin l h i q))))

    pub block-kept : {gain : Float} → Upto binary32 3 gain → (xs : List Float) → Opennesses xs → NotAbove (mul binary32 bound gain) start end xs
        → xs ≡ map_range (lobes_joined grid (lent table) gain (take count lobes)) start end xs
    block-kept {gain} g xs u l = range-kept (lobes_joined grid (lent table) gain (take count lobes)) start end xs at
      where
        at : (k : ℕ) → k < length xs → start ≤ k → k < end → lobes_joined grid (lent table) gain (take count lobes) k (get_or xs k nan) ≡ get_or xs k nan
        at k h p q =
            let m = most-in-unit k in
            let b = (held top greatest.0).0 in
            let v = upto-mul binary32 0 3 (most k) gain (lit≤ tt) m g in
            let w = upto-mul binary32 0 3 bound gain (lit≤ tt) b g in
            compact-is-plain grid table k (take count lobes) (all-in-unit grid table lobes count sound few k) (u k h) g
            ∙ keeps-higher (u k h) v (le_join v w (u k h) (mul-mono-l binary32 (most k) bound gain m.is_real b.is_real g.is_real g.low (most-below k p q)) (l k p q h))
