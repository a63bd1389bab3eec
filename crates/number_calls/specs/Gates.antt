-- What the open calls on the gate and on the drawn curve answer: the tests in the order of the
-- refusals' numbers, then the number asked for. Assumes nothing.
use Rattle.std.specs.Prelude.{cond, not, List, [], ◌∷◌, ℕ, eqb, length, Float}
use Rattle.answer.specs.Refusal.{SIZE_OR_RATE, SETTING, LENGTH}
use Rattle.answer.specs.Reply.{Reply, done, refused}
use Rattle.float32.specs.Order.{finite}
use Rattle.limits.specs.Limits as limits
use Rattle.masks.specs.Gates.{emphasis_gain, limited_gate_gain}
use Rattle.limits.specs.Lengths.{manual_mask_points}
use Rattle.masks.specs.Manual.{manual_gain}

unfoldable pub note_emphasis_gain : Float → Reply
note_emphasis_gain width =
    cond (not (limits.width width)) (refused SETTING 0)
    (done (emphasis_gain width ∷ []))

unfoldable pub note_gate_gain : Float → Float → Float → Reply
note_gate_gain depth width openness =
    cond (not (limits.note_depth depth)) (refused SETTING 0)
    (cond (not (limits.width width)) (refused SETTING 0)
    (cond (not (finite openness)) (refused SETTING 0)
    (done (limited_gate_gain depth width openness ∷ []))))

unfoldable pub manual_gain_at_bin : List Float → ℕ → ℕ → Reply
manual_gain_at_bin curve bin size =
    cond (not (limits.size size)) (refused SIZE_OR_RATE 0)
    (cond (not (limits.bin bin)) (refused SETTING 0)
    (cond (not (eqb (length curve) manual_mask_points)) (refused LENGTH 0)
    (done (manual_gain curve bin size ∷ []))))
