-- What a function is told of its parameters on entry (`c.good`): the floats of the settings are
-- f32s, and those of each voice of an array and of a scene. Of a lent slice of f32 it is told by
-- the slice itself. Assumes nothing.
use mathlib.Core.Path.{◌≡◌, sym, subst}
use mathlib.Core.Bool.{Bool, true}
use mathlib.Core.List.{List, [], ◌∷◌}
use Prim.Native.Nat.{ℕ, zero, suc, ◌<◌}
use native.Mathlib.Nat.{not-suc-le-zero, le_of_suc-le-suc}
use lib.Dec.{T}
use lib.ListN.{length, get_or}
use base.Fml.{Fml}
use mir.Val.{Val}
use denote.Laws.{Is}
use denote.Shadow.{shadow}
use denote.Array.{each, Array}
use denote.Struct.Declared.{row}
use denote.Enum.Declared as enum
use Rattle.scene.specs.declared.MaskVoice.{MaskVoice}
use Rattle.scene.specs.declared.Pitch.{Pitch}
use Rattle.scene.specs.declared.Pitch.TheVariants.{Note, Hertz}
use Rattle.scene.specs.declared.MaskConfig.{MaskConfig}
use Rattle.scene.specs.Accepted.{no_voice}
use Rattle.scene.specs.contracts.MaskVoice as voice-type
use Rattle.scene.specs.contracts.Pitch as pitch-type
use Rattle.scene.specs.declared.Scene.{Scene}
use Rattle.scene.specs.contracts.MaskConfig as config-type
use Rattle.scene.specs.contracts.Scene as scene-type
use Rattle.scene.specs.F32.{F32Pitch, F32Voice, F32Settings, F32Voices}

pub held : {b : Bool} → b ≡ true → T b
held e = subst T (sym e) tt

pub each_at : (d : Type 0) (f : d → List Val → Fml) (xs : List d) (us : List Val) → shadow (each d f xs us) → (i : ℕ) (e : d) → i < length xs → (u : Val) × shadow (f (get_or xs i e) (u ∷ []))
each_at d f [] us s i e h = absurd (not-suc-le-zero h)
each_at d f (x ∷ xs) [] s i e h = absurd s
each_at d f (x ∷ xs) (u ∷ us) s zero e h = (u, s.0)
each_at d f (x ∷ xs) (u ∷ us) s (suc i) e h = each_at d f xs us s.1 i e (le_of_suc-le-suc h)

-- the numbers of a pitch, by its form
pitch-f32 : (pitch : Pitch) (vs : List Val) → shadow ((enum.field pitch-type.the_type).row.own_val ((pitch-type.the_type).to pitch) vs) → F32Pitch pitch
pitch-f32 (Note note tuning) vs told = held told.1.1.1.1.1.0.1
pitch-f32 (Hertz hertz) vs told = held told.1.1.1.1.0.1

-- the fields in their order: the first is the pitch
voice-f32 : (voice : MaskVoice) (vs : List Val) → Is (row voice-type.the_type) voice vs → F32Voice voice
voice-f32 voice vs told =
    let f = told.1.1.1 in
    record {
      pitch = pitch-f32 voice.pitch told.0.0 told.1.1.0;
      level = held f.0.1;
      pressure = held f.1.0.1;
      timbre = held f.1.1.0.1;
      volume = held f.1.1.1.0.1;
      expression = held f.1.1.1.1.0.1;
      pan = held f.1.1.1.1.1.0.1;
    }

pub voices-f32 : (n : ℕ) (voices : List MaskVoice) (vs : List Val) → Is (Array (row voice-type.the_type) n) voices vs → F32Voices voices
voices-f32 n voices vs told i h =
    let e = each_at MaskVoice (row voice-type.the_type).own_val voices told.0 told.1.1 i no_voice h in
    voice-f32 (get_or voices i no_voice) (e.0 ∷ []) e.1

-- the fields in their order: the last is the motion, whose first is the shape
pub settings-f32 : (config : MaskConfig) (vs : List Val) → Is (row config-type.the_type) config vs → F32Settings config
settings-f32 config vs told =
    let f = told.1.1 in
    let motion = f.1.1.1.1.1.1.1.0.1.1 in
    record {
      rate = held f.0.1;
      note-depth = held f.1.1.0.1;
      width = held f.1.1.1.1.0.1;
      rolloff = held f.1.1.1.1.1.1.0.1;
      motion-depth = held motion.1.0.1;
      phase = held motion.1.1.0.1;
      motion-size = held motion.1.1.1.0.1;
    }

-- a whole scene: settings, then voices
pub scene-f32 : (scene : Scene) (vs : List Val) → Is (row scene-type.the_type) scene vs → F32Settings scene.config × F32Voices scene.voices
scene-f32 scene vs told =
    (settings-f32 scene.config _ told.1.1.0, voices-f32 128 scene.voices _ told.1.1.1.0)
