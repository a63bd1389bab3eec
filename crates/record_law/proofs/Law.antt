-- The promises of scene records, from the laws of heads and voices: a record that is written passes
-- the test of refusal 9 and holds its scene, and one that is accepted is what its scene is written
-- as. Assumes nothing.
use mathlib.Core.Path.{◌≡◌, refl, sym, ap, ◌∙◌, subst}
use mathlib.Core.Bool.{Bool, true, false, cond}
use mathlib.Core.List.{List, [], append-nil}
use Prim.Native.Nat.{ℕ, ◌*◌, ◌<◌}
use native.Mathlib.Nat.{le_refl}
use native.Mathlib.Omega.{arith}
use lib.Dec.{T}
use lib.Ieee.Bits.{is_true}
use lib.ListN.{length, get_or, take, drop, length-append, length-drop, take-append-drop}
use lib.Seq.{take_all, take-take, drop_at}
use borrow.Author.Tests.{eq-eqb}
use Rattle.lists.specs.Totals.{All, all_drop}
use Rattle.lists.specs.Entries.{all-places}
use Rattle.lists.specs.Bytes.{Byte}
use Rattle.answer.specs.Reply.{done, refused}
use Rattle.answer.specs.Refusal.{RECORD}
use Rattle.limits.specs.Lengths.{record_head, record_length}
use Rattle.scene.specs.declared.MaskVoice.{MaskVoice}
use Rattle.scene.specs.declared.Scene.{Scene}
use Rattle.scene.specs.Accepted.{no_voice, voice_accepted}
use Rattle.scene.specs.Gathered.{gathered}
use Rattle.refusals.specs.Masks.{first, settings_reply, voices_reply}
use Rattle.refusals.proofs.MaskAccepted.{Done, is-done, both-done, settings-done, voices-done}
use Rattle.refusals.proofs.MaskAccepted.{voice-done}
use Rattle.refusals.proofs.Heard.{all-heard}
use Rattle.record_words.specs.Floats.{floats_of}
use Rattle.record_words.proofs.FloatLists.{Number}
use Rattle.record_heads.specs.Heads.{FieldsFit, head_bytes, head_in, zero_bits}
use Rattle.record_heads.specs.Heads.{settings_in}
use Rattle.record_heads.proofs.Heads as head
use Rattle.record_voices.specs.Voices.{voices_bytes, voices_of, pitches_allowed}
use Rattle.record_voices.proofs.Voices.{VoiceNumbers, voices-length, voices-counted, voices-back}
use Rattle.record_voices.proofs.Voices.{voices-pass, voices-there}
use Rattle.record_calls.specs.Records.{counted, record_of, write_reply, count_in, voices_in, well_formed}
use Rattle.record_calls.specs.Records.{form_reply, read_reply, scene_in, scene_read}
use Rattle.record_calls.proofs.Reading.{Formed, formed, held-voices, read-tested, scene-done}
use Rattle.record_calls.proofs.Writing as write
use Rattle.record_law.specs.Law.{SameScene, F32Scene, ScenesComeBack, RecordsComeBack}
use Rattle.record_law.specs.Law.{OneRecordEach}
use Rattle.record_law.proofs.Numbers.{settings-fit, voices-fit, settings-numbers}
use Rattle.record_law.proofs.Numbers.{voice-numbers}

-- ---- the scene of a written record
module _ (scene : Scene) (f32 : F32Scene scene) (n : ℕ) (accepted : write_reply n scene ≡ done [])
  where
    abbrev d : Done (write_reply n scene)
    d = is-done (write_reply n scene) accepted

    abbrev voices : List ℕ
    voices = voices_bytes (counted scene)

    abbrev bytes : List ℕ
    bytes = record_of scene

    abbrev fit : FieldsFit scene.config scene.count
    fit = write.fields_fit scene n d

    counts : count_in bytes ≡ scene.count
    unfolding record_of
    counts = head.count-back scene.config scene.count fit voices

    zeros : zero_bits (head_in bytes) ≡ true
    unfolding record_of
    zeros = head.zeros-back scene.config scene.count fit voices

    settings : settings_in bytes ≡ scene.config
    unfolding record_of
    settings =
        head.settings-back scene.config scene.count fit voices (write.size-accepted scene n d)
        (settings-fit scene.config f32.settings-f32)

    past_head : drop record_head bytes ≡ voices
    unfolding record_of
    past_head =
        drop_at (head_bytes scene.config scene.count) voices record_head
        (head.head-length scene.config scene.count)

    whole_length : length bytes ≡ record_length (count_in bytes)
    unfolding record_of
    whole_length =
        omega (
          arith,
          counts,
          length-append (head_bytes scene.config scene.count) voices,
          head.head-length scene.config scene.count,
          voices-length (counted scene),
          write.all-counted scene n d,
        )

    -- the voices and their test, with nothing behind them
    all-voices : voices_in bytes ≡ counted scene
    all-voices =
        ap (voices_of (drop record_head bytes)) (counts ∙ sym (write.all-counted scene n d))
        ∙ ap (λ (l : List ℕ). voices_of l (length (counted scene)))
        (past_head ∙ sym (append-nil voices))
        ∙ voices-back (counted scene) []
        (voices-fit scene.voices scene.count f32.voices-f32)

    pitches : T (pitches_allowed (drop record_head bytes) (count_in bytes))
    pitches =
        subst (λ (k : ℕ). T (pitches_allowed (drop record_head bytes) k))
        (write.all-counted scene n d ∙ sym counts)
        (subst (λ (l : List ℕ). T (pitches_allowed l (length (counted scene))))
        (append-nil voices ∙ sym past_head) (voices-pass (counted scene) []))

    well-formed : well_formed bytes ≡ true
    unfolding well_formed
    well-formed =
        rw (
          eq-eqb (length bytes) (record_length (count_in bytes)) whole_length,
          zeros,
          is_true (pitches_allowed (drop record_head bytes) (count_in bytes)) pitches,
        )

    -- the answer of the read is that of the write
    voices-tested :
        voices_reply (counted scene) scene.count true
        ≡ voices_reply scene.voices scene.count true
    unfolding voices_reply
    voices-tested =
        rw (take-take scene.count scene.count scene.voices (le_refl scene.count))

    write-tested :
        write_reply n scene
        ≡ first (settings_reply scene.config) (voices_reply scene.voices scene.count true)
    unfolding write_reply
    write-tested = rw (eq-eqb n (record_length scene.count) (write.whole scene n d))

    read-accepted : read_reply bytes ≡ done []
    unfolding read_reply
    read-accepted =
        rw (well-formed, settings, all-voices, counts, voices-tested) (sym write-tested ∙ accepted)

    same-scene : SameScene (scene_read bytes) scene
    unfolding scene_in
    same-scene =
        subst (λ (s : Scene). SameScene s scene) (scene-done bytes read-accepted)
        (record {
          settings = settings;
          count = counts;
          voices =
              all-heard (voices_in bytes) (count_in bytes)
              (sym (voices-counted (drop record_head bytes) (count_in bytes)))
              (omega (arith, counts, write.few scene n d))
              ∙ all-voices;
        })

pub scenes-come-back : ScenesComeBack
scenes-come-back scene f32 n accepted =
    (read-accepted scene f32 n accepted, same-scene scene f32 n accepted)

-- ---- the record of a read scene
module _ (bytes : List ℕ) (small : All Byte bytes) (accepted : read_reply bytes ≡ done []) where
  groups :
      Done (form_reply bytes)
      × Done (first (settings_reply (settings_in bytes))
      (voices_reply (voices_in bytes) (count_in bytes) true))
  unfolding read_reply
  groups = both-done (form_reply bytes) _ (is-done (read_reply bytes) accepted)

  tests :
      Done (settings_reply (settings_in bytes))
      × Done (voices_reply (voices_in bytes) (count_in bytes) true)
  tests = both-done (settings_reply (settings_in bytes)) _ groups.1

  form : T (well_formed bytes)
  form = go (well_formed bytes) groups.0
    where
      go : (b : Bool) → Done (cond b (done []) (refused RECORD 0)) → T b
      go true d = tt
      go false d = absurd d

  abbrev formed-record : Formed bytes
  formed-record = formed bytes form

  abbrev n : ℕ
  n = count_in bytes

  abbrev past-head-bytes : List ℕ
  past-head-bytes = drop record_head bytes

  head-numbers : All Number (floats_of (drop 3 bytes) 7)
  head-numbers =
      let s = settings-done (settings_in bytes) tests.0 in
      subst (All Number) (head.seven (head_in bytes) (drop 3 bytes))
      (settings-numbers (settings_in bytes) s.0 s.1)

  head-there : head_bytes (settings_in bytes) n ≡ take record_head bytes
  head-there =
      head.head-there bytes (omega (arith, formed-record.whole)) small formed-record.zeros
      head-numbers

  voice-there :
      (i : ℕ) → i < length (voices_in bytes) → VoiceNumbers (get_or (voices_in bytes) i no_voice)
  voice-there i h =
      let all : take n (voices_in bytes) ≡ voices_in bytes =
      take_all n (voices_in bytes) (omega (arith, voices-counted past-head-bytes n)) in
      let passed = voice-done (voices_in bytes) n true tests.1 i in
      voice-numbers (get_or (voices_in bytes) i no_voice)
      (subst (λ (vs : List MaskVoice). T (voice_accepted (get_or vs i no_voice))) all
      (passed (subst (λ (vs : List MaskVoice). i < length vs) (sym all) h)))

  voices-there-all : voices_bytes (voices_in bytes) ≡ past-head-bytes
  voices-there-all =
      let l = length-drop record_head bytes in
      voices-there n past-head-bytes (omega (arith, l, formed-record.whole))
      (all_drop Byte record_head bytes small) formed-record.pitches
      (all-places VoiceNumbers no_voice (voices_in bytes) voice-there)
      ∙ take_all (29 * n) past-head-bytes (omega (arith, l, formed-record.whole))

  counted-in : counted (scene_in bytes) ≡ voices_in bytes
  unfolding scene_in
  counted-in =
      all-heard (voices_in bytes) n (sym (voices-counted past-head-bytes n))
      (voices-done (voices_in bytes) n true tests.1).0

  written-there : record_of (scene_in bytes) ≡ bytes
  unfolding record_of scene_in
  written-there =
      rw (head-there, counted-in, voices-there-all) (take-append-drop record_head bytes)

  write-accepted : write_reply (length bytes) (scene_in bytes) ≡ done []
  unfolding write_reply scene_in
  write-accepted =
      rw (eq-eqb (length bytes) (record_length n) formed-record.whole)
      (sym
      (read-tested bytes (settings_in bytes) (gathered (voices_in bytes)) n refl refl
      (sym (held-voices past-head-bytes n)) (is_true (well_formed bytes) form))
      ∙ accepted)

pub records-come-back : RecordsComeBack
records-come-back bytes small accepted =
    rw (← scene-done bytes accepted)
    (write-accepted bytes small accepted, written-there bytes small accepted)

-- ---- one record for a scene
same-record : (a b : Scene) → SameScene a b → record_of a ≡ record_of b
unfolding record_of
same-record a b same = rw (same.voices, same.settings, same.count)

pub one-record-each : OneRecordEach
one-record-each a b small-a small_b accepted-a accepted-b same =
    sym (records-come-back a small-a accepted-a).1
    ∙ same-record (scene_read a) (scene_read b) same
    ∙ (records-come-back b small_b accepted-b).1
