-- What all partials of a voice share: the fundamental, the level and the rolloff. Assumes nothing.
use Rattle.std.specs.Prelude.{List, ℕ, ◌+◌, pos, Float}
use Rattle.std.specs.Float.{binary32}
use Rattle.std.specs.Float.Ieee.{of_bits, of_int, neg, add, sub, mul}
use Rattle.lists.specs.Maps.{tabulate}
use Rattle.float32.specs.Order.{maximum, clamp}
use Rattle.float32.specs.Remainder.{zero, one, half}
use Rattle.power.specs.Log.{L2}
use Rattle.decibels.specs.Gain.{gain_of}
use Rattle.pitch.specs.Pitch.{note_hertz}
use Rattle.scene.specs.declared.MaskVoice.{MaskVoice}
use Rattle.scene.specs.declared.Pitch.{Pitch}
use Rattle.scene.specs.declared.Pitch.TheVariants.{Note, Hertz}
use Rattle.lobes.specs.declared.Grid.{Grid}
use Rattle.lobes.specs.declared.Tone.{Tone}
use Rattle.limits.specs.Lengths.{max_partials}

-- pressure raises the level's gain from 0.35 to 1
abbrev pub least_pressure_gain : Float
least_pressure_gain = of_bits binary32 0x3eb3_3333

abbrev pub pressure_gain_range : Float
pressure_gain_range = of_bits binary32 0x3f26_6666

-- the range of the timbre's tilt, darkest to brightest, in decibels per octave
abbrev pub timbre_range_db : Float
timbre_range_db = of_bits binary32 0x41c0_0000

abbrev pub max_rolloff_db : Float
max_rolloff_db = of_bits binary32 0x4240_0000

unfoldable pub pressure_gain : Float → Float
pressure_gain pressure =
    add binary32 least_pressure_gain (mul binary32 pressure_gain_range (clamp zero one pressure))

-- level, volume and pressure
unfoldable pub note_level : MaskVoice → Float
note_level voice =
    mul binary32 (mul binary32 voice.level (maximum voice.volume_gain zero))
    (pressure_gain voice.pressure)

-- the settings' rolloff, which a dark timbre raises and a bright one lowers
unfoldable pub timbre_rolloff : Float → Float → Float
timbre_rolloff rolloff timbre =
    clamp zero max_rolloff_db
    (add binary32 rolloff
    (mul binary32 (sub binary32 half (clamp zero one timbre)) timbre_range_db))

-- a note's frequency at its tuning; "A hertz pitch is the fundamental itself, with no tuning added"
unfoldable pub pitch_hertz : Pitch → Float
pitch_hertz (Note note tuning) = note_hertz note tuning
pitch_hertz (Hertz hertz) = hertz

-- the pitch of a voice
unfoldable pub fundamental_of : MaskVoice → Float
fundamental_of voice = pitch_hertz voice.pitch

unfoldable pub tone_of : Grid → MaskVoice → Tone
tone_of grid voice =
    record {
      fundamental = fundamental_of voice;
      level = note_level voice;
      rolloff = timbre_rolloff grid.rolloff voice.timbre;
    }

-- a partial's frequency, and its gain
abbrev pub center_of : Tone → ℕ → Float
center_of tone partial = mul binary32 tone.fundamental (of_int binary32 (pos partial))

-- the octaves of a partial above the fundamental
abbrev pub octaves_of : ℕ → Float
octaves_of partial = L2 (of_int binary32 (pos partial))

unfoldable pub harmonic_gain : Float → ℕ → Float
harmonic_gain rolloff partial = gain_of (mul binary32 (neg rolloff) (octaves_of partial))

-- those of the partials 1 to 24; entry 0 is not used
unfoldable pub partial_octaves : List Float
partial_octaves = tabulate (max_partials + 1) octaves_of
