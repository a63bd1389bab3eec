-- Each entry of the table is the logarithm that `openness` takes at its sample, and no sample is
-- below the lowest frequency shown: by one test that goes through the samples.
-- So a sample's power comes from the settled field's gain at the table's positions. Assumes
-- nothing.
use mathlib.Core.Path.{◌≡◌, refl, sym, ap, ◌∙◌}
use mathlib.Core.Bool.{Bool, false, not, ◌&&◌}
use mathlib.Core.List.{List, [], ◌∷◌, map}
use Prim.Native.Nat.{ℕ, zero, suc, ◌+◌, ◌≤◌, ◌<◌}
use native.Mathlib.Nat.{not-suc-le-zero, le_of_suc-le-suc}
use native.Mathlib.Omega.{arith}
use lib.Dec.{T, eqb, eqb→eq}
use lib.Count.{count_trailing_zeros}
use lib.ListN.{length, get_or}
use lib.Ieee.{Float, nan, inf, fin, binary32, fits, lt, le, add, mul, div, sum, round, size, span, climb, units, odd, of_bits, to_bits, of_fields, of_int, is_nan}
use lib.Ieee.Bits.{of_bits-to_bits, is_false}
use lib.Ieee.Fits.{and_l, and_r}
use Rattle.float_laws.specs.Units.{number}
use Rattle.lists.specs.Maps.{map_range, get_or-map_range, between_in}
use Rattle.lists.specs.Folds.{fold, range}
use Rattle.lists.specs.Tested.{every, every-at}
use Rattle.lists.specs.Interpolation.{interp}
use Rattle.float32.specs.Powers.{square}
use Rattle.float32.specs.Value.{moved}
use Rattle.power.specs.Table.{power_table}
use Rattle.power.specs.Power.{power_at, power_of, E2}
use Rattle.power.specs.Log.{positive_normal, units_of, rounded, L2}
use Rattle.power.proofs.LogRange.{L2-number}
use Rattle.power.proofs.LogComputed.{log_of_units, L2-computed}
use Rattle.scene.specs.declared.MotionConfig.{MotionConfig}
use Rattle.motion.specs.Field.{min_display_frequency_hz, resting_depth_db, openness, attenuation, motion_gain}
use Rattle.motion_compensation.specs.Compensation.{sample_frequency, sample_power}
use Rattle.motion_compensation.specs.Octaves.{octave_bits, octave_table}
use Rattle.motion.specs.Settled.{settled}
use Rattle.motion_rows.specs.Rows.{gain_there}

-- at the frequency f, whose quotient by the lowest one shown is v
abbrev shown : Float → Bool
shown f = not (lt f min_display_frequency_hz)

abbrev logged : Float → ℕ → Bool
logged v b = positive_normal v && eqb (to_bits binary32 (log_of_units (units_of v))) b

abbrev agrees : ℕ → ℕ → Bool
agrees i b = shown (sample_frequency i) && logged (div binary32 (sample_frequency i) min_display_frequency_hz) b

all-agree : T (every agrees 0 octave_bits)
unfolding octave_bits sample_frequency of_bits of_fields to_bits odd count_trailing_zeros add sum of_int div mul round size span climb units lt le E2 power_of power_at moved interp power_table is_nan units_of rounded
all-agree = tt

-- ---- the entries
long : length octave_bits ≡ 256
unfolding octave_bits
long = refl

pub table-long : length octave_table ≡ 256
unfolding octave_table octave_bits
table-long = refl

agreed : (i : ℕ) → i < 256 → T (agrees i (get_or octave_bits i 0))
agreed i h = every-at 0 agrees octave_bits all-agree i (rw long h)

fits-of : (x : Float) → T (number binary32 x) → T (fits binary32 x)
unfolding fits
fits-of nan h = tt
fits-of (inf s) h = tt
fits-of (fin s m e) h = h

get_d_map : (g : ℕ → Float) (xs : List ℕ) (k : ℕ) → k < length xs → get_or (map g xs) k nan ≡ g (get_or xs k 0)
get_d_map g [] k h = absurd (not-suc-le-zero h)
get_d_map g (x ∷ xs) zero h = refl
get_d_map g (x ∷ xs) (suc k) h = get_d_map g xs k (le_of_suc-le-suc h)

module _ (i : ℕ) (h : i < 256) where
  abbrev f : Float
  f = sample_frequency i

  abbrev v : Float
  v = div binary32 f min_display_frequency_hz

  is-logged : T (logged v (get_or octave_bits i 0))
  is-logged = and_r (shown f) (logged v (get_or octave_bits i 0)) (agreed i h)

  is-shown : lt f min_display_frequency_hz ≡ false
  is-shown = is_false (lt f min_display_frequency_hz) (and_l (shown f) (logged v (get_or octave_bits i 0)) (agreed i h))

  same_bits : to_bits binary32 (L2 v) ≡ get_or octave_bits i 0
  same_bits =
      ap (to_bits binary32) (L2-computed v (and_l (positive_normal v) (eqb (to_bits binary32 (log_of_units (units_of v))) (get_or octave_bits i 0)) is-logged))
      ∙ eqb→eq (to_bits binary32 (log_of_units (units_of v))) (get_or octave_bits i 0) (and_r (positive_normal v) (eqb (to_bits binary32 (log_of_units (units_of v))) (get_or octave_bits i 0)) is-logged)

  pub octave-is : get_or octave_table i nan ≡ L2 v
  unfolding octave_table
  octave-is = get_d_map (of_bits binary32) octave_bits i (rw long h) ∙ ap (of_bits binary32) (sym same_bits) ∙ of_bits-to_bits binary32 (L2 v) (fits-of (L2 v) (L2-number v))

-- ---- the samples' powers, from a row of the gains there of a field that does not rest
module _ (config : MotionConfig) (r : le config.depth_db resting_depth_db ≡ false) (row : List Float) (g : row ≡ map_range (λ k x. gain_there (settled config) x) 0 256 octave_table) where
  abbrev power_at_place : ℕ → Float
  power_at_place k = square (get_or row k nan)

  held : (k : ℕ) → k < 256 → get_or row k nan ≡ gain_there (settled config) (get_or octave_table k nan)
  held k h =
      ap (λ l. get_or l k nan) g ∙ get_or-map_range (λ k x. gain_there (settled config) x) 0 256 octave_table k nan (rw table-long h)
      ∙ between_in (λ k x. gain_there (settled config) x) 0 256 k (get_or octave_table k nan) (omega arith) h

  there-is : (k : ℕ) → k < 256 → square (gain_there (settled config) (get_or octave_table k nan)) ≡ sample_power config k
  unfolding settled sample_power motion_gain attenuation openness
  there-is k h = rw (r, is-shown k h, octave-is k h)

  power-is : (k : ℕ) → k < 256 → power_at_place k ≡ sample_power config k
  power-is k h = ap square (held k h) ∙ there-is k h

  -- the sum over n samples from i on
  pub sum_is : (i n : ℕ) (s : Float) → i + n ≤ 256
      → fold (λ s k. add binary32 s (power_at_place k)) s (range i n) ≡ fold (λ s k. add binary32 s (sample_power config k)) s (range i n)
  unfolding fold range
  sum_is i zero s h = refl
  sum_is i (suc n) s h =
      ap (λ p. fold (λ s k. add binary32 s (power_at_place k)) (add binary32 s p) (range (suc i) n)) (power-is i (omega arith))
      ∙ sum_is (suc i) n (add binary32 s (sample_power config i)) (omega arith)
