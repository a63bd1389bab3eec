-- The voices of a bank of note levels, for `build_mask`: one for each of the 128 notes, at its
-- level and with the Rust's defaults. Assumes nothing.
use Rattle.std.specs.Prelude.{List, ℕ, get_or, Float}
use Rattle.std.specs.Float.{nan}
use Rattle.lists.specs.Maps.{tabulate}
use Rattle.float32.specs.Remainder.{zero, one, half}
use Rattle.limits.specs.Lengths.{midi_notes}
use Rattle.scene.specs.declared.MaskVoice.{MaskVoice}
use Rattle.scene.specs.declared.Pitch.TheVariants.{Note}

abbrev pub level_voice : ℕ → Float → MaskVoice
level_voice note level =
    record {
      pitch = Note note zero;
      level = level;
      pressure = one;
      timbre = half;
      volume_gain = one;
      expression_gain = one;
      pan = zero;
    }

abbrev pub voices_of : List Float → List MaskVoice
voices_of levels = tabulate midi_notes (λ note. level_voice note (get_or levels note nan))
