-- A bin whose curve point is a NaN has gain 0: the curve's gain there is 0, and the moving field's
-- and the gate's are finite, so both products are a zero. Assumes nothing.
use mathlib.Core.Path.{sym, subst}
use mathlib.Core.Bool.{Bool, true, false}
use Prim.Native.Nat.{ℕ, ◌+◌, ◌/◌, ◌<◌}
use lib.Dec.{T, lit≤}
use lib.ListN.{length, get_or}
use lib.Ieee.{Float, nan, binary32, eq, mul, of_bits}
use Rattle.lists.specs.Maps.{get_d_tabulate}
use Rattle.lists.specs.Totals.{all-at}
use Rattle.float_laws.specs.Units.{real}
use Rattle.float_laws.specs.Ops.{mul-comm-f}
use Rattle.float_laws.specs.Rise.{rise-refl, upto-mul}
use Rattle.float_laws.specs.Same.{nought}
use Rattle.float32.specs.Remainder.{zero}
use Rattle.scene.specs.declared.MaskConfig.{MaskConfig}
use Rattle.scene.specs.Accepted.{no_voice}
use Rattle.scene.specs.Voices.{RealVoice}
use Rattle.scene.proofs.SettingsNumbers as numbers
use Rattle.scene.proofs.SettingsNumbers.{RealSettings}
use Rattle.masks.specs.Manual.{manual_gain}
use Rattle.masks.proofs.Curve.{manual-nan}
use Rattle.lobes.specs.Pan.{Side, left, right}
use Rattle.lobes.specs.Distance.{lent}
use Rattle.openness.proofs.RaisedVoices.{RaisedIn, raised-self}
use Rattle.openness.proofs.SilentVoices.{Nought, times_zero}
use Rattle.bin_gains.specs.Gains.{motion_at, ceiling_at}
use Rattle.bin_gains.proofs.Rising.{manual-upto, motion-upto}
use Rattle.mask_builder.specs.Mask.{mask_at}
use Rattle.mask_builder.proofs.Rising.{mask-rises}
use Rattle.chord_law.specs.Calls.{WholeCall, Call, F32Call, Accepted, given, whole, mask_on}
use Rattle.chord_law.specs.Erased.{Erased, ErasedMuted, ErasedLaw, LentErasedLaw}
use Rattle.chord_law.proofs.Acceptance.{size-accepted, settings-accepted, all-real}
use Rattle.chord_law.proofs.CurvePoints.{point-f32}
use Rattle.chord_law.proofs.LentCalls.{in_array, all-count}

equal-zeros : (s : Bool) → T (eq (nought s) zero)
unfolding of_bits eq
equal-zeros true = tt
equal-zeros false = tt

nought-is-zero : {x : Float} → Nought x → T (eq x zero)
nought-is-zero {x} z =
    subst (λ (y : Float). T (eq y zero)) (sym z.is) (equal-zeros z.of-sign)

-- a zero times what keeps the product finite
zero-first :
    (x y : Float) → Nought x → T (real binary32 (mul binary32 x y)) → Nought (mul binary32 x y)
zero-first x y z p =
    let turned = mul-comm-f binary32 x y in
    subst (λ (w : Float). Nought w) (sym turned)
    (times_zero y x z (subst (λ (w : Float). T (real binary32 w)) turned p))

module _ (call : Call) (f : F32Call call) (p : Accepted (whole call)) (bin : ℕ)
    (e : Erased (whole call) bin) where
  abbrev config : MaskConfig
  config = call.config

  settings : RealSettings config
  settings =
      numbers.real-settings config (size-accepted call p) (settings-accepted call p)
      f.settings-f32

  curve-zero : Nought (manual_gain call.curve bin config.fft_size)
  curve-zero =
      record { of-sign = false; is = manual-nan call.curve bin config.fft_size e }

  ceiling-zero : Nought (ceiling_at call.curve config bin)
  unfolding ceiling_at
  ceiling-zero =
      let manual = manual-upto call.curve bin config.fft_size
      (point-f32 call p f bin config.fft_size) in
      zero-first (manual_gain call.curve bin config.fft_size) (motion_at config bin)
      curve-zero
      (upto-mul binary32 0 2 _ _ (lit≤ tt) manual (motion-upto config bin settings)).is_real

  -- each voice is raised above itself, so what a bin holds is finite
  itself : (i : ℕ) → i < length (given call) → RaisedIn (get_or (given call) i no_voice) (given call)
  itself i h =
      record {
        place = i;
        there = h;
        above = raised-self _ (all-at RealVoice (given call) i no_voice (all-real call p f) h);
      }

  module _ (side : Side) where
    abbrev held : ℕ → Float
    held = mask_at call.curve config (lent call.table) side (given call)

    finite : T (real binary32 (held bin))
    finite =
        let us = all-real call p f in
        let point = rise-refl binary32
        (manual-upto call.curve bin config.fft_size
        (point-f32 call p f bin config.fft_size)) in
        (mask-rises config settings call.table side (given call) (given call) us us itself
        call.curve call.curve bin point).from.is_real

    held-zero : Nought (held bin)
    unfolding mask_at
    held-zero = zero-first (ceiling_at call.curve config bin) _ ceiling-zero finite

    muted : bin < config.fft_size / 2 + 1 → T (eq (get_or (mask_on side call) bin nan) zero)
    muted h =
        rw (get_d_tabulate held (config.fft_size / 2 + 1) bin nan h) (nought-is-zero held-zero)

pub erased-law : ErasedLaw
erased-law call f p bin h e =
    record { left-bin = muted call f p bin e left h; right-bin = muted call f p bin e right h }

pub lent-erased-law : LentErasedLaw
lent-erased-law call f =
    subst (λ (x : WholeCall). ErasedMuted x) (all-count call) (erased-law (in_array call) f)
