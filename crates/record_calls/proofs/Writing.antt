-- What the code of `write_scene` needs: a scene that passes the tests has room for each field in
-- its bits, and head and voices stored one after the other are the record. Assumes nothing.
use mathlib.Core.Path.{◌≡◌, refl, ap, ◌∙◌}
use mathlib.Core.Bool.{Bool, true, false, cond, not, ◌&&◌}
use mathlib.Core.List.{List, ◌++◌}
use Prim.Native.Nat.{ℕ, ◌≤◌}
use native.Mathlib.Omega.{arith}
use lib.Dec.{T, eqb, eqb→eq, ltb, leb, leb→le}
use lib.Ieee.Fits.{and_l, and_r}
use lib.ListN.{length, get_or, length-append, length-take}
use Rattle.lists.specs.Totals.{All}
use Rattle.lists.proofs.Folds.{bad-le}
use Rattle.lists.specs.Entries.{all-places}
use Rattle.lists.specs.Stores.{stored, stored-append, stored-all}
use Rattle.answer.specs.Reply.{Reply}
use Rattle.limits.specs.Limits as limits
use Rattle.limits.specs.Lengths.{most_voices, max_partials, most_note, record_head, record_length}
use Rattle.scene.specs.declared.MaskVoice.{MaskVoice}
use Rattle.scene.specs.declared.Pitch.{Pitch}
use Rattle.scene.specs.declared.Pitch.TheVariants.{Note, Hertz}
use Rattle.scene.specs.declared.Scene.{Scene}
use Rattle.scene.specs.Accepted.{no_voice, size_accepted, settings_accepted, motion_accepted}
use Rattle.scene.specs.Accepted.{pitch_accepted}
use Rattle.scene.specs.Accepted.{voice_accepted, first_voice_outside}
use Rattle.scene.specs.Gathered.{held}
use Rattle.scene.specs.PitchNumbers.{note_of}
use Rattle.refusals.specs.Masks.{first, settings_reply, voices_reply}
use Rattle.refusals.proofs.MaskAccepted.{Done, both-done, settings-done, voices-done, voice-done}
use Rattle.record_heads.specs.Heads.{FieldsFit, head_bytes}
use Rattle.record_heads.proofs.Fields.{log-below}
use Rattle.record_heads.proofs.Heads.{head-length}
use Rattle.record_voices.specs.Voices.{NoteFits, voices_bytes}
use Rattle.record_voices.proofs.Voices.{voices-length}
use Rattle.record_calls.specs.Records.{counted, record_of, write_reply}

-- ---- only the length of at most 128 voices counts, as more are refused before
held-length :
    (over : Bool) (count n : ℕ) (three four rest : Reply)
    → cond over three (cond (not (eqb n (record_length (cond over most_voices count)))) four rest)
    ≡ cond over three (cond (not (eqb n (record_length count))) four rest)
held-length true count n three four rest = refl
held-length false count n three four rest = refl

-- the note of an accepted voice has room in seven bits
pitch-fits : (pitch : Pitch) → T (pitch_accepted pitch) → note_of pitch ≤ most_note
unfolding pitch_accepted note_of
pitch-fits (Note note semitones) t =
    leb→le note most_note (and_l (limits.note note) (limits.tuning semitones) t)
pitch-fits (Hertz hertz) t = omega arith

note-fits : (voice : MaskVoice) → T (voice_accepted voice) → NoteFits voice
unfolding voice_accepted
note-fits voice t = pitch-fits voice.pitch (and_l (pitch_accepted voice.pitch) _ t)

module _ (scene : Scene) (n : ℕ) where
  -- the answer that the code puts together
  pub write-answer :
      {lengths : Bool} → lengths ≡ eqb n (record_length (held scene.count))
      → first (settings_reply scene.config) (voices_reply scene.voices scene.count lengths)
      ≡ write_reply n scene
  unfolding write_reply voices_reply
  write-answer e =
      rw e
      (ap (λ (r : Reply). first (settings_reply scene.config) r)
      (held-length (ltb most_voices scene.count) scene.count n _ _ _))

  -- ---- of a scene that passes the tests
  module _ (accepted : Done (write_reply n scene)) where
    groups :
        Done (settings_reply scene.config)
        × Done (voices_reply scene.voices scene.count (eqb n (record_length scene.count)))
    unfolding write_reply
    groups = both-done (settings_reply scene.config) _ accepted

    tested :
        (scene.count ≤ most_voices) × T (eqb n (record_length scene.count))
        × (scene.count ≤ first_voice_outside scene.voices scene.count)
    tested = voices-done scene.voices scene.count _ groups.1

    pub few : scene.count ≤ most_voices
    few = tested.0

    pub whole : n ≡ record_length scene.count
    whole = eqb→eq n (record_length scene.count) tested.1

    -- the array has the voices that count: the search for one outside its limits passed them all
    pub all-counted : length (counted scene) ≡ scene.count
    all-counted =
        let found = bad-le (λ index voice. voice_accepted voice) (counted scene) in
        omega (arith, tested.2, found, length-take scene.count scene.voices)

    settings : T (size_accepted scene.config) × T (settings_accepted scene.config)
    settings = settings-done scene.config groups.0

    pub size-accepted : T (limits.size scene.config.fft_size)
    unfolding size_accepted
    size-accepted =
        let config = scene.config in
        and_l (limits.size config.fft_size) (limits.rate config.sample_rate) settings.0

    partials-few : scene.config.partials ≤ max_partials
    unfolding settings_accepted
    partials-few =
        let config = scene.config in
        let notes =
        limits.note_depth config.note_depth_db && limits.width config.width_cents in
        let partials = limits.partials config.partials in
        let rolloff = limits.rolloff config.harmonic_rolloff_db_per_octave in
        let motion = motion_accepted config.motion in
        let harmonics =
        and_l (partials && rolloff) motion
        (and_r notes ((partials && rolloff) && motion) settings.1) in
        leb→le config.partials max_partials
        (and_r (leb 1 config.partials) (leb config.partials max_partials)
        (and_l partials rolloff harmonics))

    pub fields_fit : FieldsFit scene.config scene.count
    fields_fit =
        record {
          log = log-below scene.config.fft_size size-accepted;
          partials = omega (arith, partials-few);
          count_fits = omega (arith, few);
        }

    pub notes-fit : All NoteFits (counted scene)
    notes-fit =
        all-places NoteFits no_voice (counted scene)
        (λ i h. note-fits (get_or (counted scene) i no_voice)
        (voice-done scene.voices scene.count _ groups.1 i h))

  -- head and voices stored one after the other
  pub record-stored :
      (old now : List ℕ) → length old ≡ record_length scene.count
      → length (counted scene) ≡ scene.count
      → now ≡ stored old 0 (head_bytes scene.config scene.count)
      → stored now record_head (voices_bytes (counted scene)) ≡ record_of scene
  unfolding record_of
  record-stored old now l m e =
      let head = head_bytes scene.config scene.count in
      let voices = voices_bytes (counted scene) in
      let h = head-length scene.config scene.count in
      let v = voices-length (counted scene) in
      ap (λ (b : List ℕ). stored b record_head voices) e
      ∙ stored-append old 0 record_head head voices (omega (arith, h))
      ∙ stored-all old (head ++ voices) (omega (arith, length-append head voices, h, v, m, l))
