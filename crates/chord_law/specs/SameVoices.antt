-- The same voice in two scenes: equal pitch, and every other number equal as f32 compares, so that
-- the sign of a zero does not count. Assumes nothing.
use Rattle.std.specs.Prelude.{T}
use Rattle.std.specs.Float.Ieee.{eq}
use Rattle.scene.specs.declared.MaskVoice.{MaskVoice}
use Rattle.chord_law.specs.Voices.{SamePitch}

pub record SameVoice (a b : MaskVoice) : Type 0 where
  pub pitch : SamePitch a.pitch b.pitch
  pub level : T (eq a.level b.level)
  pub pressure : T (eq a.pressure b.pressure)
  pub timbre : T (eq a.timbre b.timbre)
  pub volume : T (eq a.volume_gain b.volume_gain)
  pub expression : T (eq a.expression_gain b.expression_gain)
  pub pan : T (eq a.pan b.pan)
