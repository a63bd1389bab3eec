-- The most that one of several lobes opens at a bin: the lobes joined to a row in their order, one
-- of them once more before all others, give it. Assumes nothing.
use mathlib.Core.Path.{◌≡◌, sym, ap, ◌∙◌, subst}
use mathlib.Core.List.{List}
use Prim.Native.Nat.{ℕ, ◌+◌, ◌-◌, ◌≤◌, ◌<◌}
use native.Mathlib.Nat.{le_refl}
use native.Mathlib.Omega.{arith}
use lib.Dec.{T, lit≤}
use lib.ListN.{length, get_or, take, drop}
use lib.Seq.{get_or-take, length-take-le}
use lib.Ieee.{Float, nan, binary32, le}
use Rattle.lists.specs.Folds.{fold, fold_step, fold_end, rest-next, rest-none}
use Rattle.lists.specs.Maps.{tabulate, map_range, between_in, get_d_tabulate, length-tab, get_or-map_range, length-map_range}
use Rattle.lists.specs.Totals.{all-at}
use Rattle.lists.specs.Entries.{all-places}
use Rattle.float_laws.specs.Rise.{Upto, upto-weaken}
use Rattle.float32.specs.Remainder.{zero, one}
use Rattle.blocks.specs.Least.{Numbers}
use Rattle.lobes.specs.declared.Grid.{Grid}
use Rattle.lobes.specs.declared.Lobe.{Lobe}
use Rattle.lobes.specs.Distance.{lent}
use Rattle.lobe_bounds.specs.Bound.{Measured}
use Rattle.lobe_bounds.proofs.Bounded.{opening-in-unit}
use Rattle.lobe_joins.specs.Joined.{lobe_joined, no_lobe, lobes_joined}
use Rattle.lobe_joins.proofs.Maxima.{le_join, join_where, FitWhere, BelowWhere, where-join, nothing-open}
use Rattle.lobe_joins.proofs.Highest.{InUnit, highest-reaches, once-before}
use Rattle.lobe_joins.proofs.RowJoined.{reaches, opens, AllInUnit, row_step, row-run}
use Rattle.block_rows.specs.Most.{most_open, SoundLobes, Opennesses}
use Rattle.block_rows.proofs.Held.{open-numbers}
use Rattle.block_rows.proofs.RowRaised.{in_row, row_same, place_same, row_open}

module _ (grid : Grid) (table : List Float) (lobes : List Lobe) (count : ℕ) (sound : SoundLobes grid lobes count) (few : count ≤ length lobes) (bin : ℕ) where
  abbrev step : Float → Lobe → Float
  step held lobe = lobe_joined grid (lent table) one bin held lobe

  pub lobe-in-unit : (p : ℕ) → p < count → InUnit (reaches grid table bin) (opens grid table bin) (get_or lobes p no_lobe)
  lobe-in-unit p h = opening-in-unit grid (get_or lobes p no_lobe) (sound p h).measured table bin

  pub all-in-unit : AllInUnit grid table bin (take count lobes)
  all-in-unit = all-places (InUnit (reaches grid table bin) (opens grid table bin)) no_lobe (take count lobes) (λ i l. at i (subst (λ n. i < n) (length-take-le count lobes few) l))
    where
      at : (i : ℕ) → i < count → InUnit (reaches grid table bin) (opens grid table bin) (get_or (take count lobes) i no_lobe)
      at i h = subst (InUnit (reaches grid table bin) (opens grid table bin)) (sym (get_or-take count lobes i no_lobe h)) (lobe-in-unit i h)

  -- what is left to join from a lobe on
  abbrev pub left : ℕ → Float → Float
  left p held = fold step held (drop p (take count lobes))

  pub left-next : (p : ℕ) (held : Float) → p < count → left p held ≡ left (p + 1) (step held (get_or lobes p no_lobe))
  left-next p held h = fold_step step held (rest-next lobes count p no_lobe few h)

  pub left_end : (held : Float) → left count held ≡ held
  left_end held = fold_end step held (rest-none lobes count count (le_refl count))

  -- one lobe before all others
  pub top-first : (top : ℕ) → top < count → left 0 (step zero (get_or lobes top no_lobe)) ≡ most_open grid (lent table) (take count lobes) bin
  unfolding lobes_joined
  top-first top h =
      let first = get_or lobes top no_lobe in
      let u = lobe-in-unit top h in
      ap (λ (x : Float). fold step x (take count lobes)) (row_step grid table bin zero first u)
      ∙ row-run grid table bin (join_where (reaches grid table bin) (opens grid table bin) zero first) (take count lobes) all-in-unit
      ∙ once-before (reaches grid table bin) (opens grid table bin) zero first (take count lobes) nothing-open u all-in-unit below
      ∙ sym (row-run grid table bin zero (take count lobes) all-in-unit)
    where
      below : BelowWhere (reaches grid table bin) (opens grid table bin) (get_or lobes top no_lobe) (fold (join_where (reaches grid table bin) (opens grid table bin)) zero (take count lobes))
      below =
          let all = highest-reaches (reaches grid table bin) (opens grid table bin) zero (take count lobes) nothing-open all-in-unit in
          subst (λ (x : Lobe). BelowWhere (reaches grid table bin) (opens grid table bin) x (fold (join_where (reaches grid table bin) (opens grid table bin)) zero (take count lobes))) (get_or-take count lobes top no_lobe h)
          (all-at _ (take count lobes) top no_lobe all (subst (λ n. top < n) (sym (length-take-le count lobes few)) h))

-- ---- a row of bins, from start on and below end, while the lobes are joined to it; the one at
-- `top` is there already
module _ (grid : Grid) (table : List Float) (lobes : List Lobe) (count : ℕ) (sound : SoundLobes grid lobes count) (few : count ≤ length lobes) (start end top : ℕ) (inside : top < count) where
  abbrev first : Lobe
  first = get_or lobes top no_lobe

  pub record Joining (p : ℕ) (row : List Float) : Type 0 where
    pub opennesses : Opennesses row
    pub there : (k : ℕ) → k < length row → k < end - start → T (reaches grid table (start + k) first) → T (le (opens grid table (start + k) first) (get_or row k nan))
    pub rest : (k : ℕ) → k < length row → k < end - start
        → left grid table lobes count sound few (start + k) p (get_or row k nan) ≡ most_open grid (lent table) (take count lobes) (start + k)

  abbrev with-lobe : Lobe → List Float → List Float
  with-lobe lobe row = map_range (in_row grid table lobe start end) 0 (end - start) row

  at_place : (lobe : Lobe) (row : List Float) (k : ℕ) → k < length row → k < end - start → get_or (with-lobe lobe row) k nan ≡ in_row grid table lobe start end k (get_or row k nan)
  at_place lobe row k h q =
      get_or-map_range (in_row grid table lobe start end) 0 (end - start) row k nan h ∙ between_in (in_row grid table lobe start end) 0 (end - start) k (get_or row k nan) (omega arith) q

  same_length : (lobe : Lobe) (row : List Float) → length (with-lobe lobe row) ≡ length row
  same_length lobe row = length-map_range (in_row grid table lobe start end) 0 (end - start) row

  -- a lobe raises a place to itself, where it reaches it, and never lowers it
  module _ (lobe : Lobe) (m : Measured grid lobe) (k : ℕ) {held : Float} (u : Upto binary32 3 held) where
    abbrev bin : ℕ
    bin = start + k

    fit : FitWhere (reaches grid table bin) (opens grid table bin) lobe
    fit t = upto-weaken binary32 (lit≤ tt) (opening-in-unit grid lobe m table bin)

    raised : BelowWhere (reaches grid table bin) (opens grid table bin) lobe (in_row grid table lobe start end k held)
    raised = rw (row_step grid table bin held lobe (opening-in-unit grid lobe m table bin)) ((where-join (reaches grid table bin) (opens grid table bin)).reaches held lobe fit u)

    grown : T (le held (in_row grid table lobe start end k held))
    grown = rw (row_step grid table bin held lobe (opening-in-unit grid lobe m table bin)) ((where-join (reaches grid table bin) (opens grid table bin)).grows held lobe fit u)

  joining-first : (row : List Float) (n : ℕ) → row ≡ tabulate n (λ k. zero) → Joining 0 (with-lobe first row)
  joining-first row n e =
      record {
        opennesses = row_open grid table first start end row zeros (sound top inside).measured;
        there = λ k h q. subst (BelowWhere (reaches grid table (start + k)) (opens grid table (start + k)) first) (sym (value k h q)) (raised first (sound top inside).measured k nothing-open);
        rest = λ k h q. ap (left grid table lobes count sound few (start + k) 0) (value k h q) ∙ top-first grid table lobes count sound few (start + k) top inside;
      }
    where
      holds : (k : ℕ) → k < length row → get_or row k nan ≡ zero
      holds k h = ap (λ l. get_or l k nan) e ∙ get_d_tabulate (λ k. zero) n k nan (subst (λ m. k < m) (ap length e ∙ length-tab (λ k. zero) 0 n) h)

      zeros : Opennesses row
      zeros k h = subst (Upto binary32 3) (sym (holds k h)) nothing-open

      value : (k : ℕ) → k < length (with-lobe first row) → k < end - start → get_or (with-lobe first row) k nan ≡ in_row grid table first start end k zero
      value k h q =
          let l : k < length row = subst (λ n. k < n) (same_length first row) h in
          at_place first row k l q ∙ ap (in_row grid table first start end k) (holds k l)

  joining-next : (p : ℕ) (row : List Float) → p < count → Joining p row → Joining (p + 1) (with-lobe (get_or lobes p no_lobe) row)
  joining-next p row h j =
      record {
        opennesses = row_open grid table lobe start end row j.opennesses m;
        there = λ k l q t. still k (subst (λ n. k < n) (same_length lobe row) l) q t;
        rest = λ k l q. further k (subst (λ n. k < n) (same_length lobe row) l) q;
      }
    where
      lobe : Lobe
      lobe = get_or lobes p no_lobe

      m : Measured grid lobe
      m = (sound p h).measured

      still : (k : ℕ) → k < length row → k < end - start → T (reaches grid table (start + k) first) → T (le (opens grid table (start + k) first) (get_or (with-lobe lobe row) k nan))
      still k l q t =
          let u = j.opennesses k l in
          let w = opening-in-unit grid first (sound top inside).measured table (start + k) in
          let g : T (le (get_or row k nan) (get_or (with-lobe lobe row) k nan)) = rw (at_place lobe row k l q) (grown lobe m k u) in
          le_join (upto-weaken binary32 (lit≤ tt) w) u (row_open grid table lobe start end row j.opennesses m k (subst (λ n. k < n) (sym (same_length lobe row)) l)) (j.there k l q t) g

      further : (k : ℕ) → k < length row → k < end - start → left grid table lobes count sound few (start + k) (p + 1) (get_or (with-lobe lobe row) k nan) ≡ most_open grid (lent table) (take count lobes) (start + k)
      further k l q = ap (left grid table lobes count sound few (start + k) (p + 1)) (at_place lobe row k l q) ∙ sym (left-next grid table lobes count sound few (start + k) p (get_or row k nan) h) ∙ j.rest k l q

  pub joining-there : (p : ℕ) (row : List Float) → p ≡ top → Joining p row → row ≡ with-lobe (get_or lobes p no_lobe) row
  joining-there p row e j =
      subst (λ (n : ℕ). row ≡ with-lobe (get_or lobes n no_lobe) row) (sym e)
      (row_same grid table first start end row (λ k h q. place_same grid table first start end k (j.opennesses k h) (sound top inside).measured (j.there k h q)))

  -- a row of zeros to which the first was joined; and one lobe more
  pub joining-start : (row : List Float) (n : ℕ) {ys : List Float} → row ≡ tabulate n (λ k. zero) → ys ≡ with-lobe first row → Joining 0 ys
  joining-start row n e w = subst (Joining 0) (sym w) (joining-first row n e)

  pub joining-more : (p : ℕ) (row : List Float) {ys : List Float} → p < count → Joining p row → ys ≡ with-lobe (get_or lobes p no_lobe) row → Joining (p + 1) ys
  joining-more p row h j w = subst (Joining (p + 1)) (sym w) (joining-next p row h j)

  pub joining-numbers : (lo hi p : ℕ) {row : List Float} → Joining p row → Numbers lo hi row
  joining-numbers lo hi p {row} j = open-numbers lo hi row j.opennesses

  pub joining-end : (row : List Float) → Joining count row → (k : ℕ) → k < length row → start + k < end → get_or row k nan ≡ most_open grid (lent table) (take count lobes) (start + k)
  joining-end row j k l h = sym (left_end grid table lobes count sound few (start + k) (get_or row k nan)) ∙ j.rest k l (omega arith)
