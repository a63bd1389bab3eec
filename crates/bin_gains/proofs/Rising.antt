-- A bin's gain never falls as its curve point and its openness rise: the manual gain and the gate
-- never fall, the motion is the same, and all three are finite and not negative. Assumes nothing.
use mathlib.Core.Bool.{Bool, true, false, not, cond}
use mathlib.Core.List.{List}
use Prim.Native.Nat.{ℕ}
use native.Mathlib.Nat.{le_trans, le_of_eq}
use lib.Dec.{T, lit≤}
use lib.ListN.{get_or}
use lib.Ieee.{Float, nan, is_nan, binary32, fits, le, lt, sub, of_bits}
use Rattle.float_laws.specs.Units.{mag}
use Rattle.float_laws.specs.Mono.{sizes}
use Rattle.float_laws.specs.Power.{power, mag-power, real-power}
use Rattle.float_laws.specs.Rise.{Upto, Rise, upto-level, upto-weaken, rise-refl, rise-weaken, rise-mul, rise-add}
use Rattle.float32.specs.Remainder.{one}
use Rattle.scene.specs.declared.MaskConfig.{MaskConfig}
use Rattle.scene.proofs.SettingsNumbers.{RealSettings}
use Rattle.masks.specs.Gates.{emphasis_gain, floor_gain}
use Rattle.masks.specs.Manual.{curve_point, curve_gain, manual_gain}
use Rattle.masks.proofs.Curve.{curve-gain-in-unit, curve-gain-never-falls}
use Rattle.masks.proofs.Emphasis.{floor-real, floor-nonneg, floor-at-most-one, lift-real, lift-nonneg, lift-at-most-two}
use Rattle.motion.specs.Field.{resting_depth_db}
use Rattle.motion_compensation.proofs.Compensated.{compensated-gain-upto}
use Rattle.bin_gains.specs.Gains.{motion_at, gate_at}

unity : Upto binary32 0 one
unfolding of_bits fits le mag
unity = record { is_real = tt; low = tt; high = lit≤ tt }

-- ---- the manual gain
pub manual-upto :
    (curve : List Float) (bin size : ℕ) → T (fits binary32 (get_or curve (curve_point bin size) nan))
    → Upto binary32 0 (manual_gain curve bin size)
unfolding manual_gain
manual-upto curve bin size f =
    let x = get_or curve (curve_point bin size) nan in
    let u = curve-gain-in-unit x f in
    upto-level binary32 (curve_gain x) u.finite u.low u.high

-- b's point is at or above a's, where a's is a number; where a's is a NaN, b's may be anything
pub manual-rises :
    (a b : List Float) (bin size : ℕ) → T (fits binary32 (get_or a (curve_point bin size) nan))
    → T (fits binary32 (get_or b (curve_point bin size) nan))
    → (T (not (is_nan (get_or a (curve_point bin size) nan)))
    → T (le (get_or a (curve_point bin size) nan) (get_or b (curve_point bin size) nan)))
    → Rise binary32 0 (manual_gain a bin size) (manual_gain b bin size)
unfolding manual_gain
manual-rises a b bin size p q h =
    record {
      from = manual-upto a bin size p;
      to = manual-upto b bin size q;
      up = curve-gain-never-falls _ _ p q h;
    }

-- ---- the motion
pub motion-upto : (config : MaskConfig) (bin : ℕ) → RealSettings config → Upto binary32 2 (motion_at config bin)
unfolding motion_at
motion-upto config bin c = go (lt resting_depth_db config.motion.depth_db) (compensated-gain-upto config.motion c.motion-depth _)
  where
    go : (b : Bool) {x : Float} → Upto binary32 2 x → Upto binary32 2 (cond b x one)
    go true u = u
    go false u = upto-weaken binary32 (lit≤ tt) unity

-- ---- the gate
module _ (depth width : Float) (f : T (fits binary32 depth)) where
  floor-unit : Upto binary32 0 (floor_gain depth)
  floor-unit = upto-level binary32 (floor_gain depth) (floor-real depth) (floor-nonneg depth) (floor-at-most-one depth f)

  lift-upto : Upto binary32 1 (sub binary32 (emphasis_gain width) (floor_gain depth))
  lift-upto =
      let x = sub binary32 (emphasis_gain width) (floor_gain depth) in
      let p = lift-real depth width f in
      let l = lift-nonneg depth width f in
      record { is_real = p; low = l; high = le_trans (sizes binary32 x (power 1) p (real-power binary32 1 (lit≤ tt)) l (lift-at-most-two depth width f)).0 (le_of_eq (mag-power binary32 1)) }

pub gate-rises : (config : MaskConfig) {x y : Float} → RealSettings config → Rise binary32 3 x y → Rise binary32 5 (gate_at config x) (gate_at config y)
unfolding gate_at
gate-rises config {x} {y} c h =
    let depth = config.note_depth_db in
    let width = config.width_cents in
    go config.note_layer_enabled
    (rise-add binary32 4 (lit≤ tt) (rise-weaken binary32 (lit≤ tt) (rise-refl binary32 (floor-unit depth width c.note-depth)))
    (rise-mul binary32 1 3 (lit≤ tt) (rise-refl binary32 (lift-upto depth width c.note-depth)) h))
  where
    go : (b : Bool) {v w : Float} → Rise binary32 5 v w → Rise binary32 5 (cond b v one) (cond b w one)
    go true r = r
    go false r = rise-weaken binary32 (lit≤ tt) (rise-refl binary32 unity)
