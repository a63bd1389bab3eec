-- The voices that are far from a side: those "with pan at or above 1" from the left, and, "the
-- mirror", those with "pan at or below -1" from the right. The pan is the number that the voice
-- has, before it is clamped, so that 1.5 is far too. Assumes nothing.
use Rattle.std.specs.Prelude.{Bool, false, cond, List, [], ◌∷◌}
use Rattle.std.specs.Float.Ieee.{le}
use Rattle.scene.specs.declared.MaskVoice.{MaskVoice}
use Rattle.lobes.specs.declared.pan.Side.TheVariants.{Mono, Left, Right}
use Rattle.lobes.specs.Pan.{Side, hard_left, hard_right}

-- no voice is far from the mono mask
abbrev pub far_from : Side → MaskVoice → Bool
far_from Mono voice = false
far_from Left voice = le hard_right voice.pan
far_from Right voice = le voice.pan hard_left

-- a list "once voices .. are left out" that are far from a side: the others, in their order
unfoldable pub near : Side → List MaskVoice → List MaskVoice
near side [] = []
near side (voice ∷ voices) =
    cond (far_from side voice) (near side voices) (voice ∷ near side voices)
