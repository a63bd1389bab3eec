-- The sign of a zero among the motion settings does not count: equal settings give the same gain at
-- every frequency and the same compensation. A zero size is below the least size. A zero phase goes
-- through operations that differ at most in the sign of a zero, up to a function of the value
-- alone: the place in the turn, a square, or 1 less the opening. At a zero depth the field rests.
-- Assumes nothing.
use mathlib.Core.Path.{◌≡◌, refl, ap, ◌∙◌, subst, subst₂}
use mathlib.Core.Logic.{◌⊎◌, inl, inr}
use mathlib.Core.Bool.{Bool, true, false, cond, ◌||◌}
use Prim.Native.Nat.{ℕ, zero as none, suc, ◌+◌, ◌%◌, ◌^◌}
use lib.IntN.{pos}
use lib.Count.{count_trailing_zeros}
use lib.Ieee.{Float, binary32, of_bits, of_fields, of_int, is_nan, add, sub, sum, mul, div, neg, rem, lt, le, round, size, span, climb, units, odd}
use Rattle.lists.specs.Folds.{fold, range}
use Rattle.float_laws.specs.Same.{Same, same, nought, noughts, same_of, through, carried, same-mul, same_add, same-sub}
use Rattle.float32.specs.Order.{maximum, minimum, clamp, magnitude}
use Rattle.float32.specs.Remainder.{zero, one, half, rem_euclid_one}
use Rattle.float32.specs.Value.{moved}
use Rattle.float32.specs.Powers.{square}
use Rattle.square_root.specs.Root.{square_root_of}
use Rattle.power.specs.Log.{L2}
use Rattle.decibels.specs.Gain.{gain_of}
use Rattle.sine.specs.Sine.{U, wave, sin_of, cos_of}
use Rattle.scene.specs.declared.MotionShape.{MotionShape}
use Rattle.scene.specs.declared.MotionShape.TheVariants.{Ripple, Harmonic, Drift, Scan, Notch, Saw, Sprinkle, Cloud}
use Rattle.scene.specs.declared.MotionConfig.{MotionConfig}
use Rattle.motion.specs.Shapes.{display_octaves, ripple, harmonic, broad, middle, detail, drift, wrapped, window, saw_at, saw}
use Rattle.motion.specs.Field.{min_display_frequency_hz, resting_depth_db, min_size_octaves, shape_at, resting, openness, attenuation, motion_gain}
use Rattle.motion_compensation.specs.Compensation.{motion_compensation_samples, max_motion_compensation_db, sample_frequency, sample_power, mean_square, compensation}

-- ---- functions of the value alone
U-zeros : U (nought false) ≡ U (nought true)
unfolding U moved mul of_bits of_fields round size span climb units odd count_trailing_zeros
U-zeros = refl

sin-alone : {x y : Float} → Same x y → sin_of x ≡ sin_of y
unfolding sin_of
sin-alone = through sin_of (ap wave U-zeros)

cos-alone : {x y : Float} → Same x y → cos_of x ≡ cos_of y
unfolding cos_of
cos-alone = through cos_of (ap (λ (u : ℕ). wave ((u + 2 ^ 22) % 2 ^ 24)) U-zeros)

magnitude-alone : {x y : Float} → Same x y → magnitude x ≡ magnitude y
unfolding magnitude
magnitude-alone = through magnitude refl

one-less-alone : {x y : Float} → Same x y → sub binary32 one x ≡ sub binary32 one y
unfolding sub add sum neg of_bits of_fields round size span climb units odd count_trailing_zeros
one-less-alone = through (λ x. sub binary32 one x) refl

remainder-keeps : {x y : Float} → Same x y → Same (rem_euclid_one x) (rem_euclid_one y)
unfolding rem_euclid_one rem lt of_bits of_fields round size span climb units odd count_trailing_zeros
remainder-keeps = carried rem_euclid_one false true refl refl

saw-keeps : {x y : Float} → Same x y → Same (saw_at x) (saw_at y)
unfolding saw_at lt div of_bits of_fields round size span climb units odd count_trailing_zeros
saw-keeps = carried saw_at false true refl refl

-- ---- the shapes, of two phases
module _ (x size : Float) {p q : Float} (h : Same p q) where
  ripple-same : ripple x size p ≡ ripple x size q
  unfolding ripple
  ripple-same = ap (λ (w : Float). clamp zero one (add binary32 half (mul binary32 half w))) (cos-alone (same-mul binary32 same (same-sub binary32 same h)))

  harmonic-same : harmonic x size p ≡ harmonic x size q
  unfolding harmonic
  harmonic-same = rw ripple-same refl

  broad-same : broad x size p ≡ broad x size q
  unfolding broad
  broad-same = sin-alone (same-mul binary32 same (same-sub binary32 same h))

  middle-same : middle x size p ≡ middle x size q
  unfolding middle
  middle-same = sin-alone (same-mul binary32 same (same_add binary32 (same_add binary32 same (same-mul binary32 h same)) same))

  detail-same : detail x size p ≡ detail x size q
  unfolding detail
  detail-same = sin-alone (same-mul binary32 same (same_add binary32 (same-sub binary32 same (same-mul binary32 h same)) same))

  drift-same : drift x size p ≡ drift x size q
  unfolding drift
  drift-same = rw (broad-same, middle-same, detail-same) refl

  wrapped_same : wrapped x p ≡ wrapped x q
  unfolding wrapped
  wrapped_same = ap (λ (w : Float). minimum w (sub binary32 display_octaves w)) (magnitude-alone (same-sub binary32 same (same-mul binary32 h same)))

  window_same : window x size p ≡ window x size q
  unfolding window
  window_same = rw wrapped_same refl

  saw-same : Same (saw x size p) (saw x size q)
  unfolding saw
  saw-same = saw-keeps (remainder-keeps (same-sub binary32 same h))

  shape_same : (shape : MotionShape) → Same (shape_at shape x size p) (shape_at shape x size q)
  shape_same Ripple = same_of ripple-same
  shape_same Harmonic = same_of harmonic-same
  shape_same Drift = same_of drift-same
  shape_same Scan = same_of window_same
  shape_same Notch = same_of (ap (λ (w : Float). sub binary32 one w) window_same)
  shape_same Saw = saw-same
  shape_same Sprinkle = same
  shape_same Cloud = same

-- ---- the field, of two settings with one shape and one depth
module _ (a b : MotionConfig) (shape : a.shape ≡ b.shape) (depth : a.depth_db ≡ b.depth_db) (phase : Same a.phase b.phase) (octaves : Same a.size_octaves b.size_octaves) where
  size_same : maximum a.size_octaves min_size_octaves ≡ maximum b.size_octaves min_size_octaves
  unfolding maximum lt is_nan of_bits of_fields odd count_trailing_zeros
  size_same = through (λ x. maximum x min_size_octaves) refl octaves

  openness-same : (frequency : Float) → Same (openness frequency a) (openness frequency b)
  unfolding openness
  openness-same frequency =
      let x = L2 (div binary32 frequency min_display_frequency_hz) in
      subst₂ (λ (s : MotionShape) (d : Float). Same (openness frequency a) (cond (le d resting_depth_db || lt frequency min_display_frequency_hz) one (shape_at s x (maximum b.size_octaves min_size_octaves) (rem_euclid_one b.phase)))) shape depth
      (subst (λ (z : Float). Same (openness frequency a) (cond (resting frequency a) one (shape_at a.shape x z (rem_euclid_one b.phase)))) size_same
      (either (resting frequency a) (shape_same x (maximum a.size_octaves min_size_octaves) (remainder-keeps phase) a.shape)))
    where
      either : (c : Bool) {v w : Float} → Same v w → Same (cond c one v) (cond c one w)
      either true h = same
      either false h = h

  attenuation-same : (frequency : Float) → attenuation frequency a ≡ attenuation frequency b
  unfolding attenuation
  attenuation-same frequency =
      ap (λ (d : Float). mul binary32 (maximum d zero) (sub binary32 one (openness frequency a))) depth
      ∙ ap (λ (w : Float). mul binary32 (maximum b.depth_db zero) w) (one-less-alone (openness-same frequency))

  pub motion-gain-same : (frequency : Float) → motion_gain frequency a ≡ motion_gain frequency b
  unfolding motion_gain
  motion-gain-same frequency = ap (λ (d : Float). gain_of (neg d)) (attenuation-same frequency)

  power-same : (k : ℕ) → sample_power a k ≡ sample_power b k
  unfolding sample_power
  power-same k = ap square (motion-gain-same (sample_frequency k))

  sums_same : (s : Float) (i n : ℕ) → fold (λ sum index. add binary32 sum (sample_power a index)) s (range i n) ≡ fold (λ sum index. add binary32 sum (sample_power b index)) s (range i n)
  unfolding fold range
  sums_same s i none = refl
  sums_same s i (suc n) =
      sums_same (add binary32 s (sample_power a i)) (suc i) n
      ∙ ap (λ (t : Float). fold (λ sum index. add binary32 sum (sample_power b index)) t (range (suc i) n)) (ap (λ (w : Float). add binary32 s w) (power-same i))

  mean-same : mean_square a ≡ mean_square b
  unfolding mean_square
  mean-same = ap (λ (x : Float). div binary32 x (of_int binary32 (pos motion_compensation_samples))) (sums_same zero 0 motion_compensation_samples)

  pub compensation-same : compensation a ≡ compensation b
  unfolding compensation
  compensation-same =
      ap (λ (d : Float). cond (le d resting_depth_db) one (minimum (div binary32 one (square_root_of binary32 (mean_square a))) (gain_of max_motion_compensation_db))) depth
      ∙ ap (λ (m : Float). cond (le b.depth_db resting_depth_db) one (minimum (div binary32 one (square_root_of binary32 m)) (gain_of max_motion_compensation_db))) mean-same

-- ---- two depths: one, or two at which the field rests
pub one-or-resting : {x y : Float} → Same x y → (x ≡ y) ⊎ ((lt resting_depth_db x ≡ false) × (lt resting_depth_db y ≡ false))
unfolding lt of_bits of_fields odd count_trailing_zeros
one-or-resting same = inl refl
one-or-resting (noughts false false) = inr (refl, refl)
one-or-resting (noughts false true) = inr (refl, refl)
one-or-resting (noughts true false) = inr (refl, refl)
one-or-resting (noughts true true) = inr (refl, refl)
