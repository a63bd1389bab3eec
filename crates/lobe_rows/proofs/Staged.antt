-- The stages of a row of bins, one after the other, give each bin its bell, and then the lobe's
-- opening. Assumes nothing.
use mathlib.Core.Path.{◌≡◌, sym, ap, ◌∙◌, subst}
use mathlib.Core.List.{List}
use Prim.Native.Nat.{ℕ, ◌+◌, ◌≤◌, ◌<◌}
use native.Mathlib.Nat.{le_trans, le_of_eq, min-le_right}
use native.Mathlib.Omega.{arith}
use lib.ListN.{length, get_or}
use lib.Ieee.{Float, nan, binary32, sub, mul, div}
use lib.Ieee.Fits.{sub-fits}
use Rattle.lists.specs.Maps.{map_range, between_in, get_or-map_range}
use Rattle.lists.specs.Stages.{stages, stage-same}
use Rattle.counts.specs.Counts.{floor_count}
use Rattle.float32.specs.Powers.{square}
use Rattle.power.specs.Log.{L2}
use Rattle.power.specs.Decimal.{exp}
use Rattle.frequencies.specs.Frequency.{hertz}
use Rattle.gaussian.specs.Bell.{Place, index_of, part_of, line, between}
use Rattle.gaussian.proofs.InUnit.{place-of}
use Rattle.lobes.specs.declared.Grid.{Grid}
use Rattle.lobes.specs.declared.Lobe.{Lobe}
use Rattle.lobes.specs.Distance.{lent, none, minus_half, in_widths, distance}
use Rattle.lobes.specs.Lobe.{opening}
use Rattle.lobes.proofs.Raised.{from_zero}
use Rattle.lobe_rows.specs.Stages.{relative_to, place_of, opened_by, opening-lent, opening-none}

-- what is taken from a distance, NaN too, is a place of the table: a maximum with 0 is a number
pub in_table : (peak distance : Float) → Place (place_of peak distance)
in_table peak distance = place-of (relative_to peak distance) (from_zero _ (sub-fits binary32 (square distance) peak))

-- ---- the bells of the first `count` entries: their places, the entries and parts of the steps
-- there, and the lines
module _ (place : ℕ → Float) (count : ℕ) (before : List Float) (room : count ≤ length before) where
  abbrev placed : List Float
  placed = map_range (λ k x. place k) 0 count before

  placed_at : {xs : List Float} → xs ≡ placed → (k : ℕ) → k < count → get_or xs k nan ≡ place k
  placed_at e k h =
      ap (λ (l : List Float). get_or l k nan) e
      ∙ get_or-map_range (λ k x. place k) 0 count before k nan (omega arith)
      ∙ between_in (λ k x. place k) 0 count k (get_or before k nan) (omega arith) h

  pub placed-in-table : ((k : ℕ) → Place (place k)) → {xs : List Float} → xs ≡ placed → (k : ℕ) → k < count → Place (get_or xs k nan)
  placed-in-table w e k h = subst Place (sym (placed_at e k h)) (w k)

  module _ {xs : List Float} (e : xs ≡ placed) (held : List ℕ) (wide : count ≤ length held) {ns : List ℕ} (d : ns ≡ map_range (λ k x. index_of (get_or xs k nan)) 0 count held) where
    index_at : (k : ℕ) → k < count → get_or ns k 0 ≡ index_of (place k)
    index_at k h =
        ap (λ (l : List ℕ). get_or l k 0) d
        ∙ get_or-map_range (λ k x. index_of (get_or xs k nan)) 0 count held k 0 (omega arith)
        ∙ between_in (λ k x. index_of (get_or xs k nan)) 0 count k (get_or held k 0) (omega arith) h
        ∙ ap index_of (placed_at e k h)

    pub index-most : (k : ℕ) → k < count → get_or ns k 0 ≤ 1024
    index-most k h = le_trans (le_of_eq (index_at k h)) (min-le_right (floor_count (place k)) 1024)

    abbrev there : ℕ → Float → Float
    there k part = line (get_or ns k 0) part

    there-is : (k : ℕ) → k < count → there k (part_of (place k)) ≡ between (place k)
    unfolding between
    there-is k h = ap (λ (n : ℕ). line n (part_of (place k))) (index_at k h)

    pub belled : {ys zs : List Float} → ys ≡ map_range (λ k x. part_of x) 0 count xs → zs ≡ map_range there 0 count ys → zs ≡ map_range (λ k x. between (place k)) 0 count before
    belled b c =
        c
        ∙ ap (map_range there 0 count) (b ∙ ap (map_range (λ k x. part_of x) 0 count) e ∙ stages (λ k x. part_of x) (λ k x. place k) 0 count before)
        ∙ stages there (λ k x. part_of (place k)) 0 count before
        ∙ stage-same (λ k x. there k (part_of (place k))) (λ k x. between (place k)) 0 count before (λ k x p q. there-is k q)

-- ---- and what a lobe opens under them
module _ (grid : Grid) (lobe : Lobe) (table : List Float) (center : Float) (start count : ℕ) where
  abbrev pub place : ℕ → Float
  place k = place_of lobe.peak_squared (in_widths grid.width (sub binary32 (get_or table (start + k) nan) center))

  pub staged : center ≡ L2 lobe.center → (xs : List Float)
      → map_range (λ k bell. opened_by lobe.strength bell) 0 count (map_range (λ k x. between (place k)) 0 count xs)
      ≡ map_range (λ k held. opening grid (lent table) lobe (start + k)) 0 count xs
  staged e xs =
      stages (λ k bell. opened_by lobe.strength bell) (λ k x. between (place k)) 0 count xs
      ∙ stage-same (λ k x. opened_by lobe.strength (between (place k))) (λ k held. opening grid (lent table) lobe (start + k)) 0 count xs
      (λ k held p q. rw e (sym (opening-lent grid lobe (start + k) table)))

-- ---- and by the bins' own frequencies: ratios, octaves, exponents and bells
module _ (grid : Grid) (lobe : Lobe) (start count : ℕ) where
  abbrev ratio : ℕ → Float
  ratio k = div binary32 (hertz grid.bin_hz (start + k)) lobe.center

  abbrev exponent : Float → Float
  exponent octaves = mul binary32 minus_half (relative_to lobe.peak_squared (in_widths grid.width octaves))

  abbrev all : (ℕ → Float → Float) → List Float → List Float
  all f = map_range f 0 count

  opened : (k : ℕ) → opened_by lobe.strength (exp (exponent (L2 (ratio k)))) ≡ opening grid none lobe (start + k)
  unfolding distance
  opened k = sym (opening-none grid lobe (start + k))

  pub staged-by-frequency : (xs : List Float)
      → all (λ k bell. opened_by lobe.strength bell) (all (λ k y. exp y) (all (λ k octaves. exponent octaves) (all (λ k r. L2 r) (all (λ k held. ratio k) xs))))
      ≡ all (λ k held. opening grid none lobe (start + k)) xs
  staged-by-frequency xs =
      ap (λ (l : List Float). all (λ k bell. opened_by lobe.strength bell) (all (λ k y. exp y) (all (λ k octaves. exponent octaves) l))) (stages (λ k r. L2 r) (λ k held. ratio k) 0 count xs)
      ∙ ap (λ (l : List Float). all (λ k bell. opened_by lobe.strength bell) (all (λ k y. exp y) l)) (stages (λ k octaves. exponent octaves) (λ k held. L2 (ratio k)) 0 count xs)
      ∙ ap (all (λ k bell. opened_by lobe.strength bell)) (stages (λ k y. exp y) (λ k held. exponent (L2 (ratio k))) 0 count xs)
      ∙ stages (λ k bell. opened_by lobe.strength bell) (λ k held. exp (exponent (L2 (ratio k)))) 0 count xs
      ∙ stage-same (λ k held. opened_by lobe.strength (exp (exponent (L2 (ratio k))))) (λ k held. opening grid none lobe (start + k)) 0 count xs (λ k held p q. opened k)
