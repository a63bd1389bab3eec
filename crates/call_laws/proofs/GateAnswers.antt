-- What the calls on the gate and the drawn curve answer to accepted input, and the range of it: an
-- emphasis from 1 to 2; a gate from the floor to 3, the floor from 0 to 1; a manual gain from 0 to
-- 1, and 0 at a NaN of the curve. The tests pass, and the rest is a law of the core. Assumes
-- nothing.
use mathlib.Core.Path.{◌≡◌, refl, ap, ◌∙◌}
use mathlib.Core.Bool.{false}
use mathlib.Core.List.{List, [], ◌∷◌}
use Prim.Native.Nat.{ℕ}
use borrow.Author.Tests.{eq-eqb}
use lib.Dec.{T}
use lib.IntN.{pos}
use lib.ListN.{length, get_or}
use lib.Ieee.{Float, nan, fin, binary32, fits, is_nan, le}
use lib.Ieee.Bits.{is_true}
use Rattle.answer.specs.Reply.{done}
use Rattle.float_laws.specs.Bounds.{one}
use Rattle.float_laws.specs.Round.{plus_zero}
use Rattle.float32.specs.Order.{finite}
use Rattle.float32.proofs.Limits.{finite-real}
use Rattle.limits.specs.Limits as limits
use Rattle.decibels.proofs.Gains.{two}
use Rattle.masks.specs.Gates.{emphasis_gain, floor_gain, limited_gate_gain}
use Rattle.limits.specs.Lengths.{manual_mask_points}
use Rattle.masks.specs.Manual.{curve_point, manual_gain}
use Rattle.float32.proofs.InUnit.{InUnit}
use Rattle.masks.proofs.Emphasis.{emphasis-at-least-one, emphasis-at-most-two}
use Rattle.masks.proofs.Gated.{note-gate-at-least-floor, note-gate-at-most-three}
use Rattle.masks.proofs.Curve.{manual-nan, curve-gain-in-unit}
use Rattle.number_calls.specs.Gates.{note_emphasis_gain, note_gate_gain, manual_gain_at_bin}

module _ (width : Float) (a : T (limits.width width)) where
  pub emphasis-answered : note_emphasis_gain width ≡ done (emphasis_gain width ∷ [])
  unfolding note_emphasis_gain
  emphasis-answered = rw (is_true (limits.width width) a) refl

  pub emphasis-range : T (le one (emphasis_gain width)) × T (le (emphasis_gain width) two)
  emphasis-range = (emphasis-at-least-one width, emphasis-at-most-two width)

module _ (depth width openness : Float) (d : T (limits.note_depth depth))
    (w : T (limits.width width)) (o : T (finite openness)) where
  pub gate-answered :
      note_gate_gain depth width openness ≡ done (limited_gate_gain depth width openness ∷ [])
  unfolding note_gate_gain
  gate-answered =
      rw (
        is_true (limits.note_depth depth) d,
        is_true (limits.width width) w,
        is_true (finite openness) o,
      ) refl

  pub gate-range :
      T (fits binary32 depth) → T (fits binary32 openness)
      → T (le (floor_gain depth) (limited_gate_gain depth width openness))
      × T (le (limited_gate_gain depth width openness) (fin false 3 (pos 0)))
  gate-range f g =
      let r = finite-real binary32 openness g o in (
        note-gate-at-least-floor depth width openness f r,
        note-gate-at-most-three depth width openness f r,
      )

module _ (curve : List Float) (bin size : ℕ) (s : T (limits.size size)) (b : T (limits.bin bin))
    (l : length curve ≡ manual_mask_points) where
  pub manual-answered : manual_gain_at_bin curve bin size ≡ done (manual_gain curve bin size ∷ [])
  unfolding manual_gain_at_bin
  manual-answered =
      rw (
        is_true (limits.size size) s,
        is_true (limits.bin bin) b,
        eq-eqb (length curve) manual_mask_points l,
      ) refl

  pub manual-in-unit :
      T (fits binary32 (get_or curve (curve_point bin size) nan)) → InUnit (manual_gain curve bin size)
  unfolding manual_gain
  manual-in-unit f = curve-gain-in-unit (get_or curve (curve_point bin size) nan) f

  -- "a NaN in the drawn curve now mutes its bin, gain 0"
  pub manual-muted :
      T (is_nan (get_or curve (curve_point bin size) nan))
      → manual_gain_at_bin curve bin size ≡ done (plus_zero ∷ [])
  manual-muted e =
      manual-answered ∙ ap (λ (gain : Float). done (gain ∷ [])) (manual-nan curve bin size e)
