-- What the open calls of oiko-dsp answer: refusal 2 for a number outside its limits, else the
-- number asked for. Assumes nothing.
use Rattle.std.specs.Prelude.{cond, not, [], ◌∷◌, ℕ, Float}
use Rattle.answer.specs.Refusal.{SETTING}
use Rattle.answer.specs.Reply.{Reply, done, refused}
use Rattle.float32.specs.Remainder.{zero}
use Rattle.limits.specs.Limits as limits
use Rattle.decibels.specs.Gain.{gain_of}
use Rattle.pitch.specs.Pitch.{note_hertz}

unfoldable pub db_to_gain : Float → Reply
db_to_gain db = cond (not (limits.decibels db)) (refused SETTING 0) (done (gain_of db ∷ []))

unfoldable pub note_frequency_with_tuning : ℕ → Float → Reply
note_frequency_with_tuning note tuning =
    cond (not (limits.note note)) (refused SETTING 0)
    (cond (not (limits.tuning tuning)) (refused SETTING 0)
    (done (note_hertz note tuning ∷ [])))

-- a note at tuning 0
unfoldable pub note_frequency : ℕ → Reply
note_frequency note =
    cond (not (limits.note note)) (refused SETTING 0) (done (note_hertz note zero ∷ []))
