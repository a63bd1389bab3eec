-- `MaskWorkspace::prepare` over a lent table: what it answers. Assumes nothing.
use Rattle.std.specs.Prelude.{cond, not, [], ℕ, eqb, Float}
use Rattle.answer.specs.Refusal.{SIZE_OR_RATE, LENGTH}
use Rattle.answer.specs.Reply.{Reply, done, refused}
use Rattle.limits.specs.Limits as limits
use Rattle.limits.specs.Lengths.{bins}

-- Refusal 1: size and rate. Refusal 4: the table's length.
abbrev pub prepare_reply : ℕ → Float → ℕ → Reply
prepare_reply entries rate size =
    cond (not (limits.size size)) (refused SIZE_OR_RATE 0)
    (cond (not (limits.rate rate)) (refused SIZE_OR_RATE 0)
    (cond (not (eqb entries (bins size))) (refused LENGTH 0)
    (done [])))
