-- From a row to the run that it has: the least and the greatest number of the row are those of the
-- run. And by negation from a least number to a greatest. Assumes nothing.
use mathlib.Core.Path.{◌≡◌, sym, ap, subst, ◌∙◌}
use mathlib.Core.List.{List}
use Prim.Native.Nat.{ℕ, ◌+◌, ◌-◌, ◌≤◌, ◌<◌, min}
use native.Mathlib.Decide.{dec_lt}
use native.Mathlib.Omega.{arith}
use lib.Dec.{T}
use lib.ListN.{length, get_or}
use lib.Ieee.{Float, nan, binary32, of_bits, fits, neg, le}
use Rattle.lists.specs.Maps.{tabulate, map_at, map_range, length-tab, get_d_tabulate, length-map_from, get_or-map_at, between, between_in, between-high, length-map_range, get_or-map_range}
use Rattle.float_laws.specs.Units.{number}
use Rattle.float_laws.specs.Ops.{neg-neg}
use Rattle.float_laws.specs.Mono.{number-neg, le-neg}
use Rattle.blocks.specs.Least.{Numbers, Held, Least, Greatest, largest, lowest}
use Rattle.blocks.specs.Row.{RowOf}

-- a run without an entry
pub least-of-none : {lo hi : ℕ} {xs : List Float} → length xs ≤ lo → Least largest lo hi xs
unfolding of_bits fits
least-of-none h = record { is_number = tt; least = λ k a b l. absurd (omega arith); held = λ a b. absurd (omega arith) }

pub greatest-of-none : {lo hi : ℕ} {xs : List Float} → length xs ≤ lo → Greatest lowest lo hi xs
unfolding of_bits fits
greatest-of-none h = record { is_number = tt; greatest = λ k a b l. absurd (omega arith); held = λ a b. absurd (omega arith) }

-- a row filled with the run's first entry, and then with as many of the run as there are
pub row_of : (start count : ℕ) (xs old : List Float) {filled row : List Float} → start < length xs → length old ≡ 64
    → filled ≡ tabulate (length old) (λ k. get_or xs start nan) → count ≡ min 64 (length xs - start)
    → row ≡ map_range (λ k held. get_or xs (start + k) nan) 0 count filled → RowOf start xs row
row_of start count xs old {filled} {row} s l f n e =
    record {
      is-long = ap length e ∙ length-map_range part 0 count filled ∙ long;
      all = λ k h w. at k h ∙ between_in part 0 count k (get_or filled k nan) (omega arith) (omega (arith, n));
      only = λ k h. one k h (dec_lt k count);
    }
  where
    part : ℕ → Float → Float
    part k held = get_or xs (start + k) nan

    long : length filled ≡ 64
    long = ap length f ∙ length-tab (λ k. get_or xs start nan) 0 (length old) ∙ l

    at : (k : ℕ) → k < 64 → get_or row k nan ≡ between 0 count part k (get_or filled k nan)
    at k h = ap (λ z. get_or z k nan) e ∙ get_or-map_range part 0 count filled k nan (omega (arith, long))

    one : (k : ℕ) → k < 64 → Dec (k < count) → Held (get_or row k nan) start (start + 64) xs
    one k h (yes q) =
        record {
          place = start + k;
          from = omega arith;
          below = omega arith;
          within = omega (arith, n);
          is = at k h ∙ between_in part 0 count k (get_or filled k nan) (omega arith) q;
        }
    one k h (no q) =
        record {
          place = start;
          from = omega arith;
          below = omega arith;
          within = s;
          is =
              at k h ∙ between-high part 0 count k (get_or filled k nan) (omega arith) ∙ ap (λ z. get_or z k nan) f
              ∙ get_d_tabulate (λ k. get_or xs start nan) (length old) k nan (omega (arith, l));
        }

held_number : {x : Float} {lo hi : ℕ} {xs : List Float} → Numbers lo hi xs → Held x lo hi xs → T (number binary32 x)
held_number w h = subst (λ z. T (number binary32 z)) (sym h.is) (w h.place h.from h.below h.within)

module _ (start : ℕ) {xs row : List Float} (r : RowOf start xs row) where
  -- the run's entry at a place is the row's
  in_row : (k : ℕ) → start ≤ k → k < start + 64 → k < length xs → get_or row (k - start) nan ≡ get_or xs k nan
  in_row k a b l =
      let i : start + (k - start) ≡ k = omega arith in
      subst (λ z. get_or row (k - start) nan ≡ get_or xs z nan) i (r.all (k - start) (omega arith) (omega arith))

  in-run : {x : Float} → Held x 0 64 row → Held x start (start + 64) xs
  in-run h = subst (λ z. Held z start (start + 64) xs) (sym h.is) (r.only h.place h.below)

  pub row-numbers : Numbers start (start + 64) xs → Numbers 0 64 row
  row-numbers w k a b l = held_number w (r.only k b)

  pub least-of-run : {x : Float} → Least x 0 64 row → Least x start (start + 64) xs
  least-of-run {x} m =
      record {
        is_number = m.is_number;
        least = λ k a b l. subst (λ z. T (le x z)) (in_row k a b l) (m.least (k - start) (omega arith) (omega arith) (omega (arith, r.is-long)));
        held = λ a b. in-run (m.held (omega arith) (omega (arith, r.is-long)));
      }

  pub greatest-of-run : {x : Float} → Greatest x 0 64 row → Greatest x start (start + 64) xs
  greatest-of-run {x} m =
      record {
        is_number = m.is_number;
        greatest = λ k a b l. subst (λ z. T (le z x)) (in_row k a b l) (m.greatest (k - start) (omega arith) (omega arith) (omega (arith, r.is-long)));
        held = λ a b. in-run (m.held (omega arith) (omega (arith, r.is-long)));
      }

module _ (xs : List Float) {ys : List Float} (e : ys ≡ map_at (λ k held. neg held) xs) where
  turned : (k : ℕ) → k < length xs → get_or ys k nan ≡ neg (get_or xs k nan)
  turned k h = ap (λ z. get_or z k nan) e ∙ get_or-map_at (λ k held. neg held) xs k nan nan h

  pub negated-length : length ys ≡ length xs
  negated-length = ap length e ∙ length-map_from (λ k held. neg held) 0 xs

  pub negated-numbers : {lo hi : ℕ} → Numbers lo hi xs → Numbers lo hi ys
  negated-numbers w k a b l =
      let l' : k < length xs = omega (arith, negated-length) in
      subst (λ z. T (number binary32 z)) (sym (turned k l')) (number-neg binary32 (get_or xs k nan) (w k a b l'))

  -- the least of the negated numbers, negated, is the greatest
  pub least-negated : {x : Float} {lo hi : ℕ} → Numbers lo hi xs → Least x lo hi ys → Greatest (neg x) lo hi xs
  least-negated {x} {lo} {hi} w m =
      record {
        is_number = number-neg binary32 x m.is_number;
        greatest = λ k a b l. above k l (w k a b l) (m.least k a b (omega (arith, negated-length)));
        held = λ a b. back (m.held a (omega (arith, negated-length)));
      }
    where
      above : (k : ℕ) → k < length xs → T (number binary32 (get_or xs k nan)) → T (le x (get_or ys k nan)) → T (le (get_or xs k nan) (neg x))
      above k l n h =
          subst (λ z. T (le z (neg x))) (neg-neg (get_or xs k nan))
          (le-neg binary32 x (neg (get_or xs k nan)) m.is_number (number-neg binary32 (get_or xs k nan) n) (subst (λ z. T (le x z)) (turned k l) h))

      back : Held x lo hi ys → Held (neg x) lo hi xs
      back h =
          let l : h.place < length xs = omega (arith, negated-length, h.within) in
          record { place = h.place; from = h.from; below = h.below; within = l; is = ap neg (h.is ∙ turned h.place l) ∙ neg-neg (get_or xs h.place nan) }
