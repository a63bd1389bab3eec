-- The floats of a record: those of a scene's parameters are f32s, and those of accepted settings
-- and voices are no NaN. Assumes nothing.
use mathlib.Core.Path.{sym, subst}
use mathlib.Core.Bool.{Bool, ◌&&◌}
use mathlib.Core.List.{List, [], ◌∷◌}
use Prim.Native.Nat.{ℕ, ◌<◌}
use native.Mathlib.Omega.{arith}
use lib.Dec.{T}
use lib.Ieee.{Float}
use lib.Ieee.Fits.{and_l, and_r}
use lib.ListN.{length, get_or, take, length-take}
use lib.Seq.{get_or-take}
use Rattle.lists.specs.Totals.{All}
use Rattle.lists.specs.Entries.{all-places}
use Rattle.float32.specs.Order.{finite}
use Rattle.float32.proofs.Limits.{within-no-nan, finite-no-nan}
use Rattle.limits.specs.Limits as limits
use Rattle.scene.specs.declared.MaskVoice.{MaskVoice}
use Rattle.scene.specs.declared.MaskConfig.{MaskConfig}
use Rattle.scene.specs.declared.Pitch.{Pitch}
use Rattle.scene.specs.declared.Pitch.TheVariants.{Note, Hertz}
use Rattle.scene.specs.Accepted.{no_voice, size_accepted, settings_accepted, motion_accepted}
use Rattle.scene.specs.Accepted.{pitch_accepted, voice_accepted}
use Rattle.scene.specs.F32.{F32Pitch, F32Voice, F32Settings, F32Voices}
use Rattle.scene.specs.PitchNumbers.{number_of}
use Rattle.record_words.proofs.FloatLists.{Fits, Number}
use Rattle.record_heads.specs.Heads.{settings_floats}
use Rattle.record_voices.specs.Voices.{voice_floats}
use Rattle.record_voices.proofs.Voices.{VoiceNumbers}

-- a fact of seven floats
seven :
    (P : Float → Type 0) {a b c d e f g : Float} → P a → P b → P c → P d → P e → P f → P g
    → All P (a ∷ b ∷ c ∷ d ∷ e ∷ f ∷ g ∷ [])
seven P a b c d e f g = (a, (b, (c, (d, (e, (f, (g, tt)))))))

-- ---- f32s
pub settings-fit : (config : MaskConfig) → F32Settings config → All Fits (settings_floats config)
settings-fit config f =
    seven Fits f.rate f.note-depth f.width f.rolloff f.motion-depth f.phase
    f.motion-size

pitch-fits : (pitch : Pitch) → F32Pitch pitch → Fits (number_of pitch)
unfolding number_of
pitch-fits (Note note semitones) f = f
pitch-fits (Hertz hertz) f = f

voice-fits : (voice : MaskVoice) → F32Voice voice → All Fits (voice_floats voice)
voice-fits voice f =
    seven Fits f.level (pitch-fits voice.pitch f.pitch) f.pressure f.timbre
    f.volume f.expression f.pan

pub voices-fit :
    (voices : List MaskVoice) (count : ℕ) → F32Voices voices
    → All (λ voice. All Fits (voice_floats voice)) (take count voices)
voices-fit voices count f =
    all-places (λ voice. All Fits (voice_floats voice)) no_voice (take count voices) (λ i h. at i h)
  where
    at : (i : ℕ) → i < length (take count voices)
        → All Fits (voice_floats (get_or (take count voices) i no_voice))
    at i h =
        let l = length-take count voices in
        voice-fits (get_or (take count voices) i no_voice)
        (subst F32Voice (sym (get_or-take count voices i no_voice (omega arith))) (f i (omega arith)))

-- ---- no NaN
module _ (config : MaskConfig) (s : T (size_accepted config)) (t : T (settings_accepted config)) where
  abbrev depth : Bool
  depth = limits.note_depth config.note_depth_db

  abbrev width : Bool
  width = limits.width config.width_cents

  abbrev partials : Bool
  partials = limits.partials config.partials

  abbrev rolloff : Bool
  rolloff = limits.rolloff config.harmonic_rolloff_db_per_octave

  abbrev motion : Bool
  motion = motion_accepted config.motion

  rate-passed : T (limits.rate config.sample_rate)
  unfolding size_accepted
  rate-passed = and_r (limits.size config.fft_size) (limits.rate config.sample_rate) s

  notes-passed : T (depth && width)
  unfolding settings_accepted
  notes-passed = and_l (depth && width) ((partials && rolloff) && motion) t

  rest-passed : T ((partials && rolloff) && motion)
  unfolding settings_accepted
  rest-passed = and_r (depth && width) ((partials && rolloff) && motion) t

  motion-numbers :
      T motion
      → (Number config.motion.depth_db × Number config.motion.phase
      × Number config.motion.size_octaves)
  unfolding motion_accepted
  motion-numbers m =
      let d = limits.motion_depth config.motion.depth_db in
      let p = finite config.motion.phase in
      let o = limits.motion_size config.motion.size_octaves in
      let rest = and_r d (p && o) m in (
        within-no-nan _ _ config.motion.depth_db (and_l d (p && o) m),
        finite-no-nan config.motion.phase (and_l p o rest),
        within-no-nan _ _ config.motion.size_octaves (and_r p o rest),
      )

  pub settings-numbers : All Number (settings_floats config)
  settings-numbers =
      let m = motion-numbers (and_r (partials && rolloff) motion rest-passed) in
      let h = and_l (partials && rolloff) motion rest-passed in
      seven Number (within-no-nan _ _ config.sample_rate rate-passed)
      (within-no-nan _ _ config.note_depth_db (and_l depth width notes-passed))
      (within-no-nan _ _ config.width_cents (and_r depth width notes-passed))
      (within-no-nan _ _ config.harmonic_rolloff_db_per_octave (and_r partials rolloff h))
      m.0 m.1 m.2

pitch-number : (pitch : Pitch) → T (pitch_accepted pitch) → Number (number_of pitch)
unfolding pitch_accepted number_of
pitch-number (Note note semitones) t =
    within-no-nan _ _ semitones (and_r (limits.note note) (limits.tuning semitones) t)
pitch-number (Hertz hertz) t = within-no-nan _ _ hertz t

pub voice-numbers : (voice : MaskVoice) → T (voice_accepted voice) → VoiceNumbers voice
unfolding voice_accepted
voice-numbers voice t =
    let pitch = pitch_accepted voice.pitch in
    let level = limits.level voice.level in
    let pressure = finite voice.pressure in
    let timbre = finite voice.timbre in
    let volume = finite voice.volume_gain in
    let expression = finite voice.expression_gain in
    let pan = finite voice.pan in
    let touch = pressure && timbre in
    let gains = volume && expression in
    let rest = and_r pitch (level && ((touch && gains) && pan)) t in
    let sound = and_r level ((touch && gains) && pan) rest in
    let played = and_l (touch && gains) pan sound in
    let touched = and_l touch gains played in
    let gained = and_r touch gains played in
    seven Number (within-no-nan _ _ voice.level (and_l level ((touch && gains) && pan) rest))
    (pitch-number voice.pitch (and_l pitch (level && ((touch && gains) && pan)) t))
    (finite-no-nan voice.pressure (and_l pressure timbre touched))
    (finite-no-nan voice.timbre (and_r pressure timbre touched))
    (finite-no-nan voice.volume_gain (and_l volume expression gained))
    (finite-no-nan voice.expression_gain (and_r volume expression gained))
    (finite-no-nan voice.pan (and_r (touch && gains) pan sound))
