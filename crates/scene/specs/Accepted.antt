-- Which settings and voices document 01 accepts. Assumes nothing.
use Rattle.std.specs.Prelude.{Bool, ◌&&◌, List, ℕ, take}
use Rattle.std.specs.Float.{nan}
use Rattle.lists.specs.Folds.{first_bad}
use Rattle.float32.specs.Order.{finite}
use Rattle.limits.specs.Limits as limits
use Rattle.scene.specs.declared.MotionConfig.{MotionConfig}
use Rattle.scene.specs.declared.MaskConfig.{MaskConfig}
use Rattle.scene.specs.declared.MaskVoice.{MaskVoice}
use Rattle.scene.specs.declared.Pitch.{Pitch}
use Rattle.scene.specs.declared.Pitch.TheVariants.{Note, Hertz}

-- "motion depth 0..96 dB; motion phase any finite; motion size 0..100 octaves"; every shape
unfoldable pub motion_accepted : MotionConfig → Bool
motion_accepted config =
    limits.motion_depth config.depth_db
    && (finite config.phase && limits.motion_size config.size_octaves)

-- refusal 1: "size not a power of two in 64..16,384, or rate outside 8,000..192,000 Hz"
unfoldable pub size_accepted : MaskConfig → Bool
size_accepted config = limits.size config.fft_size && limits.rate config.sample_rate

-- refusal 2: "Note depth 0..144 dB; width 1..1,200 cents; partials 1..24; rolloff 0..48 dB per
-- octave", and the motion's
unfoldable pub settings_accepted : MaskConfig → Bool
settings_accepted config =
    (limits.note_depth config.note_depth_db && limits.width config.width_cents)
    && ((limits.partials config.partials
    && limits.rolloff config.harmonic_rolloff_db_per_octave)
    && motion_accepted config.motion)

-- "note 0..127", "tuning -48..48 semitones"; request 101: "either a note with its semitones, or a
-- frequency in hertz from 1 to 20,000"
unfoldable pub pitch_accepted : Pitch → Bool
pitch_accepted (Note note tuning) = limits.note note && limits.tuning tuning
pitch_accepted (Hertz hertz) = limits.hertz hertz

-- refusal 5: "A voice: .. level 0..1; pressure, timbre, volume, expression and pan any finite"
unfoldable pub voice_accepted : MaskVoice → Bool
voice_accepted voice =
    pitch_accepted voice.pitch
    && (limits.level voice.level
    && (((finite voice.pressure && finite voice.timbre)
    && (finite voice.volume_gain && finite voice.expression_gain))
    && finite voice.pan))

-- the lowest index of a voice outside its limits among the first `count`, or `count` if there is
-- none
abbrev pub first_voice_outside : List MaskVoice → ℕ → ℕ
first_voice_outside voices count = first_bad (λ index voice. voice_accepted voice) (take count voices)

-- the default for reads past the end of a list of voices, which no result depends on
abbrev pub no_voice : MaskVoice
no_voice =
    record {
      pitch = Note 0 nan;
      level = nan;
      pressure = nan;
      timbre = nan;
      volume_gain = nan;
      expression_gain = nan;
      pan = nan;
    }
