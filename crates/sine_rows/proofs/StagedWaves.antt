-- The stages of a row of angles, one after the other, give each angle its wave: what a stage holds
-- for an angle depends on that angle alone. Assumes nothing.
use mathlib.Core.Path.{◌≡◌, sym, ap, ◌∙◌, subst}
use mathlib.Core.List.{List}
use Prim.Native.Nat.{ℕ, ◌+◌, ◌-◌, ◌/◌, ◌≤◌, ◌<◌}
use native.Mathlib.Omega.{arith}
use lib.ListN.{length, get_or}
use lib.Ieee.{Float, nan}
use Rattle.lists.specs.Maps.{map_range, between_in, get_or-map_range}
use Rattle.lists.specs.Stages.{row_at, range-held}
use Rattle.sine.specs.Sine.{v, wave}
use Rattle.sine.specs.Rows.{place_ahead, index_of, part_of, value_at, level_at}
use Rattle.sine.proofs.Waves.{wave-is, wave-small}
use Rattle.sine_rows.proofs.Stepped.{index-small, part_small, value-is}

module _ (ahead start count : ℕ) (xs : List Float) (found₀ indexes₀ parts₀ : List ℕ) (room : (count ≤ length found₀) × (count ≤ length indexes₀) × (count ≤ length parts₀)) where
  -- an angle's place
  abbrev pub place : ℕ → ℕ
  place k = place_ahead ahead (get_or xs (start + k) nan)

  module _ {found indexes parts : List ℕ} (a : found ≡ map_range (λ k held. place k) 0 count found₀) (b : indexes ≡ map_range (λ k held. index_of (get_or found k 0)) 0 count indexes₀) (c : parts ≡ map_range (λ k held. part_of (get_or found k 0)) 0 count parts₀) where
    place_at : (k : ℕ) → k < count → get_or found k 0 ≡ place k
    place_at = row_at 0 place count found₀ room.0 a

    index_at : (k : ℕ) → k < count → get_or indexes k 0 ≡ index_of (place k)
    index_at k h = row_at 0 (λ k. index_of (get_or found k 0)) count indexes₀ room.1 b k h ∙ ap index_of (place_at k h)

    part_at : (k : ℕ) → k < count → get_or parts k 0 ≡ part_of (place k)
    part_at k h = row_at 0 (λ k. part_of (get_or found k 0)) count parts₀ room.2 c k h ∙ ap part_of (place_at k h)

    pub index-most : (k : ℕ) → k < count → get_or indexes k 0 < 256
    index-most k h = subst (λ (z : ℕ). z < 256) (sym (index_at k h)) (index-small (place k))

    pub part-most : (k : ℕ) → k < count → get_or parts k 0 ≤ 16384
    part-most k h = subst (λ (z : ℕ). z ≤ 16384) (sym (part_at k h)) (part_small (place k))

    module _ {values : List ℕ} (d : values ≡ map_range (λ k index. value_at index (get_or parts k 0)) 0 count indexes) (long : length indexes ≡ length indexes₀) where
      value_there : (k : ℕ) → k < count → get_or values k 0 ≡ v (place k) / 64
      value_there k h =
          ap (λ (l : List ℕ). get_or l k 0) d
          ∙ get_or-map_range (λ k index. value_at index (get_or parts k 0)) 0 count indexes k 0 (omega (arith, room.1))
          ∙ between_in (λ k index. value_at index (get_or parts k 0)) 0 count k (get_or indexes k 0) (omega arith) h
          ∙ ap (λ (z : ℕ). value_at z (get_or parts k 0)) (index_at k h)
          ∙ ap (value_at (index_of (place k))) (part_at k h)
          ∙ value-is (place k)

      pub value-most : (k : ℕ) → k < count → get_or values k 0 ≤ 16777216
      value-most k h = wave-small (place k) (get_or values k 0) (value_there k h)

      level-there : (k : ℕ) → k < count → level_at (get_or found k 0) (get_or values k 0) ≡ wave (place k)
      level-there k h = ap (λ (z : ℕ). level_at z (get_or values k 0)) (place_at k h) ∙ sym (wave-is (place k) (get_or values k 0) (value_there k h))

      pub staged : {ys : List Float} → ys ≡ map_range (λ i held. level_at (get_or found (i - start) 0) (get_or values (i - start) 0)) start (start + count) xs
          → ys ≡ map_range (λ i angle. wave (place_ahead ahead angle)) start (start + count) xs
      staged e =
          e
          ∙ range-held nan (λ i held. level_at (get_or found (i - start) 0) (get_or values (i - start) 0)) (λ i angle. wave (place_ahead ahead angle)) start (start + count) xs
          (λ i u h l. let z : start + (i - start) ≡ i = omega arith in level-there (i - start) (omega arith) ∙ ap (λ (n : ℕ). wave (place_ahead ahead (get_or xs n nan))) z)
