-- The numbers of an accepted voice are real (`RealVoice`): each is within its limits, and so a
-- finite f32. Assumes nothing.
use mathlib.Core.Bool.{Bool, ◌&&◌}
use lib.Dec.{T, leb→le}
use lib.Count.{count_trailing_zeros}
use lib.Ieee.{Float, binary32, fits, odd, of_bits, of_fields}
use lib.Ieee.Fits.{and_l, and_r}
use Rattle.float_laws.specs.Units.{real}
use Rattle.float_laws.specs.Rise.{Upto, upto-level}
use Rattle.float32.specs.Order.{finite}
use Rattle.float32.proofs.Limits.{within_low, within-high, within_real, finite-real}
use Rattle.limits.specs.Limits.{least_level, most_level, least_tuning, most_tuning, least_hertz}
use Rattle.limits.specs.Limits.{most_hertz, note, tuning, level}
use Rattle.scene.specs.declared.MaskVoice.{MaskVoice}
use Rattle.scene.specs.declared.Pitch.{Pitch}
use Rattle.scene.specs.declared.Pitch.TheVariants.{Note, Hertz}
use Rattle.scene.specs.Accepted.{pitch_accepted, voice_accepted}
use Rattle.scene.specs.F32.{F32Pitch, F32Voice}
use Rattle.scene.specs.Voices.{RealPitch, RealVoice}

ends :
    T (real binary32 least_level) × T (real binary32 most_level) × T (real binary32 least_tuning) ×
    T (real binary32 most_tuning) × T (real binary32 least_hertz) × T (real binary32 most_hertz)
unfolding of_bits of_fields odd count_trailing_zeros fits
ends = (tt, tt, tt, tt, tt, tt)

unit : (x : Float) → T (fits binary32 x) → T (level x) → Upto binary32 0 x
unfolding of_bits
unit x f t =
    upto-level binary32 x (within_real least_level most_level x t binary32 f ends.0 ends.1)
    (within_low least_level most_level x t) (within-high least_level most_level x t)

pitch-is-real : (pitch : Pitch) → T (pitch_accepted pitch) → F32Pitch pitch → RealPitch pitch
unfolding pitch_accepted
pitch-is-real (Note n t) a f =
    let within = and_r (note n) (tuning t) a in
    record {
      note-low = leb→le n 127 (and_l (note n) (tuning t) a);
      tuning-real = within_real least_tuning most_tuning t within binary32 f ends.2 ends.3;
      tuning-within = within;
    }
pitch-is-real (Hertz h) a f =
    record {
      hertz-real = within_real least_hertz most_hertz h a binary32 f ends.4 ends.5;
      hertz-within = a;
    }

module _ (voice : MaskVoice) (t : T (voice_accepted voice)) where
  abbrev tuned : Bool
  tuned = pitch_accepted voice.pitch

  abbrev touch : Bool
  touch = finite voice.pressure && finite voice.timbre

  abbrev gains : Bool
  gains = finite voice.volume_gain && finite voice.expression_gain

  abbrev rest : Bool
  rest = (touch && gains) && finite voice.pan

  pitch : T tuned
  unfolding voice_accepted
  pitch = and_l tuned (level voice.level && rest) t

  sound : T (level voice.level && rest)
  unfolding voice_accepted
  sound = and_r tuned (level voice.level && rest) t

  finites : T rest
  finites = and_r (level voice.level) rest sound

  four : T (touch && gains)
  four = and_l (touch && gains) (finite voice.pan) finites

  pub accepted-real : F32Voice voice → RealVoice voice
  accepted-real f =
      record {
        pitch-real = pitch-is-real voice.pitch pitch f.pitch;
        level-unit = unit voice.level f.level (and_l (level voice.level) rest sound);
        pressure-real =
            finite-real binary32 voice.pressure f.pressure
            (and_l (finite voice.pressure) (finite voice.timbre) (and_l touch gains four));
        timbre-real =
            finite-real binary32 voice.timbre f.timbre
            (and_r (finite voice.pressure) (finite voice.timbre) (and_l touch gains four));
        volume-real =
            finite-real binary32 voice.volume_gain f.volume
            (and_l (finite voice.volume_gain) (finite voice.expression_gain)
            (and_r touch gains four));
        expression-real =
            finite-real binary32 voice.expression_gain f.expression
            (and_r (finite voice.volume_gain) (finite voice.expression_gain)
            (and_r touch gains four));
        pan-real =
            finite-real binary32 voice.pan f.pan
            (and_r (touch && gains) (finite voice.pan) finites);
      }
