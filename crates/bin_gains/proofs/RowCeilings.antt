-- The ceilings of a row of bins: the drawn curve's gains are the ceilings where the moving field
-- rests, otherwise times the field's compensated gain. Assumes nothing.
use mathlib.Core.Path.{◌≡◌, sym, ap, ◌∙◌}
use mathlib.Core.Bool.{true, false}
use mathlib.Core.List.{List}
use Prim.Native.Nat.{ℕ, ◌+◌, ◌-◌, ◌≤◌}
use lib.Dec.{T}
use lib.ListN.{length, get_or}
use lib.Ieee.{Float, nan, binary32, of_bits, mul, lt}
use Rattle.lists.specs.Maps.{map_range}
use Rattle.lists.specs.Stages.{stage-same, stages, row_at, row-used}
use Rattle.float_laws.specs.Units.{real}
use Rattle.float_laws.specs.Bounds as bounds
use Rattle.float32.specs.Remainder.{one}
use Rattle.scene.specs.declared.MaskConfig.{MaskConfig}
use Rattle.frequencies.specs.Frequency.{bin_hertz, hertz}
use Rattle.decibels.proofs.Gains.{gain-real}
use Rattle.masks.specs.Manual.{curve_gain, manual_gain}
use Rattle.masks.proofs.Counted.{counted-gain}
use Rattle.motion.specs.Field.{resting_depth_db}
use Rattle.motion.specs.Settled.{settled}
use Rattle.motion_rows.specs.Rows.{gain_left}
use Rattle.motion_compensation.specs.Compensation.{compensation}
use Rattle.motion_rows.proofs.StagedField.{moving, settled-gain}
use Rattle.bin_gains.specs.Gains.{motion_at, gate_at, ceiling_at, gain_at}

curve-real : (db : Float) → T (real binary32 (curve_gain db))
curve-real db = rw (← counted-gain db) (gain-real _)

manual-real : (curve : List Float) (bin size : ℕ) → T (real binary32 (manual_gain curve bin size))
unfolding manual_gain
manual-real curve bin size = curve-real _

times-one : (x : Float) → T (real binary32 x) → mul binary32 x one ≡ x
unfolding of_bits
times-one x p = bounds.mul-one-f binary32 x p

module _ (curve : List Float) (config : MaskConfig) (start count : ℕ) (xs : List Float) where
  abbrev drawn : ℕ → Float → Float
  drawn k held = manual_gain curve (start + k) config.fft_size

  abbrev ceiling : ℕ → Float → Float
  ceiling k held = ceiling_at curve config (start + k)

  -- the field's gain at an entry's bin
  abbrev left : ℕ → Float
  left k = gain_left (settled config.motion) (hertz (bin_hertz config.sample_rate config.fft_size) (start + k))

  pub ceilings-at-rest : lt resting_depth_db config.motion.depth_db ≡ false → map_range drawn 0 count xs ≡ map_range ceiling 0 count xs
  unfolding ceiling_at motion_at
  ceilings-at-rest e = stage-same drawn ceiling 0 count xs (λ k held a b. rw e (sym (times-one (drawn k held) (manual-real curve (start + k) config.fft_size))))

  pub ceilings-moved : lt resting_depth_db config.motion.depth_db ≡ true → (before : List Float) {field : List Float} → count ≤ length before
      → field ≡ map_range (λ k held. left k) 0 count before
      → map_range (λ k held. mul binary32 held (mul binary32 (get_or field k nan) (compensation config.motion))) 0 count (map_range drawn 0 count xs)
      ≡ map_range ceiling 0 count xs
  unfolding ceiling_at motion_at
  ceilings-moved e before {field} room g =
      stages by_field drawn 0 count xs
      ∙ stage-same (λ k held. by_field k (drawn k held)) ceiling 0 count xs
      (λ k held a b. rw e (ap (λ v. mul binary32 (drawn k held) (mul binary32 v (compensation config.motion))) (row_at nan left count before room g k b ∙ settled-gain config.motion _ (moving _ e))))
    where
      by_field : ℕ → Float → Float
      by_field k held = mul binary32 held (mul binary32 (get_or field k nan) (compensation config.motion))

-- the bins of a row, finished from their ceilings
pub finished : (curve : List Float) (config : MaskConfig) (start count : ℕ) (before xs : List Float) {row ys : List Float} → count ≤ length before
    → row ≡ map_range (λ k held. ceiling_at curve config (start + k)) 0 count before
    → ys ≡ map_range (λ bin opened. mul binary32 (get_or row (bin - start) nan) (gate_at config opened)) start (start + count) xs
    → ys ≡ map_range (gain_at curve config) start (start + count) xs
finished curve config start count before xs room e w = row-used nan (λ ceiling opened. mul binary32 ceiling (gate_at config opened)) (ceiling_at curve config) start count before xs room e w
