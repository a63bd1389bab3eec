-- What is known of an accepted voice: its pitch is within the limits of its form, its level is in
-- 0..1 and its other numbers are finite. The premises of the functions that raise voices name it.
-- Assumes nothing.
use Rattle.std.specs.Prelude.{ℕ, ◌≤◌, T, Float}
use Rattle.std.specs.Float.{binary32}
use Rattle.float_laws.specs.Units.{real}
use Rattle.float_laws.specs.Rise.{Upto}
use Rattle.limits.specs.Limits as limits
use Rattle.scene.specs.declared.MaskVoice.{MaskVoice}
use Rattle.scene.specs.declared.Pitch.{Pitch}
use Rattle.scene.specs.declared.Pitch.TheVariants.{Note, Hertz}

pub record RealNote (note : ℕ) (tuning : Float) : Type 0 where
  pub note-low : note ≤ 127
  pub tuning-real : T (real binary32 tuning)
  pub tuning-within : T (limits.tuning tuning)

pub record RealHertz (hertz : Float) : Type 0 where
  pub hertz-real : T (real binary32 hertz)
  pub hertz-within : T (limits.hertz hertz)

abbrev pub RealPitch : Pitch → Type 0
RealPitch (Note note tuning) = RealNote note tuning
RealPitch (Hertz hertz) = RealHertz hertz

pub record RealVoice (voice : MaskVoice) : Type 0 where
  pub pitch-real : RealPitch voice.pitch
  pub level-unit : Upto binary32 0 voice.level
  pub pressure-real : T (real binary32 voice.pressure)
  pub timbre-real : T (real binary32 voice.timbre)
  pub volume-real : T (real binary32 voice.volume_gain)
  pub expression-real : T (real binary32 voice.expression_gain)
  pub pan-real : T (real binary32 voice.pan)
