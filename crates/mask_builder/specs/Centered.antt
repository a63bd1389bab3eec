-- Where the two sides of a stereo mask are equal: every voice that is not skipped is at the centre,
-- where both balances are 1. Assumes nothing.
use Rattle.std.specs.Prelude.{Bool, ◌||◌, List}
use Rattle.std.specs.Float.Ieee.{le, eq}
use Rattle.lists.specs.Tested.{every}
use Rattle.float32.specs.Remainder.{zero}
use Rattle.scene.specs.declared.MaskVoice.{MaskVoice}
use Rattle.lobes.specs.Pan.{pan_of}
use Rattle.openness.specs.Openness.{skipped_level}

abbrev pub centered : MaskVoice → Bool
centered voice = le voice.level skipped_level || eq (pan_of voice) zero

abbrev pub all_centered : List MaskVoice → Bool
all_centered voices = every (λ index voice. centered voice) 0 voices
