-- What the code of `read_scene` makes of a record: the test of refusal 9, the voices that the array
-- holds, and the answer. Assumes nothing.
use mathlib.Core.Path.{◌≡◌, sym, ap, ◌∙◌}
use mathlib.Core.Bool.{true, false, ◌&&◌}
use mathlib.Core.List.{List, ◌++◌}
use Prim.Native.Nat.{ℕ, ◌-◌}
use native.Mathlib.Nat.{le_refl}
use lib.Dec.{T, eqb, eqb→eq}
use lib.Ieee.{Float}
use lib.Ieee.Fits.{and_l, and_r}
use lib.ListN.{length, drop, replicate}
use borrow.Author.Tests.{eq-eqb, ne_eqb}
use Rattle.lists.specs.Pieces.{pieces-first}
use Rattle.answer.specs.Refusal.{RECORD}
use Rattle.std.specs.Prelude.{Result}
use Rattle.std.specs.Result.{IsErrAnd}
use Rattle.std.proofs.lemmas.Result.{err_from_is_err_and}
use Rattle.answer.specs.declared.Refusal.{Refusal}
use Rattle.answer.specs.Reply.{Reply, done, refused, of_refusal}
use Rattle.scene.specs.declared.Scene.{Scene}
use Rattle.limits.specs.Lengths.{record_head, record_voice, record_length}
use Rattle.scene.specs.declared.MaskVoice.{MaskVoice}
use Rattle.scene.specs.declared.MaskConfig.{MaskConfig}
use Rattle.scene.specs.Gathered.{held, gathered_to, gathered}
use Rattle.scene.specs.Made.{silent_voice, blank_scene}
use Rattle.scene.proofs.Gathered.{held_fits}
use Rattle.refusals.specs.Masks.{first, settings_reply, voices_reply}
use Rattle.refusals.proofs.Heard.{voices-same}
use Rattle.record_heads.specs.Heads.{head_in, zero_bits, settings_in}
use Rattle.record_voices.specs.Voices.{voice_of, voices_of, pitches_allowed}
use Rattle.record_voices.proofs.Voices.{voices-counted}
use Rattle.record_calls.specs.Records.{count_in, voices_in, well_formed, read_reply, scene_in}
use Rattle.record_calls.specs.Records.{scene_read, of_read, read_or_blank}

-- ---- the test of refusal 9, by the test that answers
module _ (bs : List ℕ) (n : ℕ) (e : n ≡ count_in bs) where
  pub other_length : (length bs ≡ record_length n → ⊥) → false ≡ well_formed bs
  unfolding well_formed
  other_length h = rw (← e, ne_eqb (length bs) (record_length n) h)

  module _ (h : length bs ≡ record_length n) where
    pub bits-set : zero_bits (head_in bs) ≡ false → false ≡ well_formed bs
    unfolding well_formed
    bits-set z = rw (← e, eq-eqb (length bs) (record_length n) h, z)

    pub last-test :
        zero_bits (head_in bs) ≡ true → pitches_allowed (drop record_head bs) n ≡ well_formed bs
    unfolding well_formed
    last-test z = rw (← e, eq-eqb (length bs) (record_length n) h, z)

-- ---- what a record that passes it is like
pub record Formed (bs : List ℕ) : Type 0 where
  pub whole : length bs ≡ record_length (count_in bs)
  pub zeros : T (zero_bits (head_in bs))
  pub pitches : T (pitches_allowed (drop record_head bs) (count_in bs))

pub formed : (bs : List ℕ) → T (well_formed bs) → Formed bs
unfolding well_formed
formed bs t =
    let same = eqb (length bs) (record_length (count_in bs)) in
    let zeros = zero_bits (head_in bs) in
    let pitches = pitches_allowed (drop record_head bs) (count_in bs) in
    let rest = and_r same (zeros && pitches) t in
    record {
      whole = eqb→eq (length bs) (record_length (count_in bs)) (and_l same (zeros && pitches) t);
      zeros = and_l zeros pitches rest;
      pitches = and_r zeros pitches rest;
    }

-- ---- the array holds the first voices
pub held-voices :
    (bs : List ℕ) (n : ℕ) → gathered_to (held n) (voices_of bs (held n)) ≡ gathered (voices_of bs n)
unfolding gathered_to
held-voices bs n =
    let few = (held_fits n).0 in
    rw (voices-counted bs n)
    (ap (λ (l : List MaskVoice). l ++ replicate (128 - held n) silent_voice)
    (pieces-first voice_of record_voice bs (held n) (held n) (le_refl (held n))
    ∙ sym (pieces-first voice_of record_voice bs (held n) n few)))

-- ---- the answer
pub read-refused : (bs : List ℕ) → well_formed bs ≡ false → read_reply bs ≡ refused RECORD 0
unfolding read_reply
read-refused bs e = rw e

-- the scene that the code puts together, and past refusal 9 the answer, which is what the tests
-- give on its parts
module _ (bs : List ℕ) (config : MaskConfig) (voices : List MaskVoice) (count : ℕ)
    (e : config ≡ settings_in bs) (c : count ≡ count_in bs)
    (v : voices ≡ gathered_to (held count) (voices_of (drop record_head bs) (held count))) where
  array-is : voices ≡ gathered (voices_in bs)
  array-is =
      v ∙ held-voices (drop record_head bs) count
      ∙ ap (λ (n : ℕ). gathered (voices_of (drop record_head bs) n)) c

  pub scene-made : record { config = config; voices = voices; count = count } ≡ scene_in bs
  unfolding scene_in
  scene-made = rw (array-is, e, c)

  pub read-tested :
      well_formed bs ≡ true
      → read_reply bs ≡ first (settings_reply config) (voices_reply voices count true)
  unfolding read_reply
  read-tested t =
      rw (t, array-is, e, c)
      (ap (λ (r : Reply). first (settings_reply (settings_in bs)) r)
      (sym (voices-same (voices_in bs) (count_in bs)
      (sym (voices-counted (drop record_head bs) (count_in bs))) true)))

-- the scene beside an answer that is refused, and beside one that is done
pub scene-refused :
    (bs : List ℕ) {number place : ℕ} → read_reply bs ≡ refused number place
    → blank_scene ≡ scene_read bs
scene-refused bs e = rw e

pub scene-done :
    (bs : List ℕ) {values : List Float} → read_reply bs ≡ done values → scene_in bs ≡ scene_read bs
scene-done bs e = rw e

-- a `?` passes the refusal of the tests on as it is
pub passed_on :
    (read : Result Scene Refusal) (refusal : Refusal) → IsErrAnd read (λ passed. passed ≡ refusal)
    → (of_read read ≡ of_refusal refusal) × (read_or_blank read ≡ blank_scene)
passed_on read refusal e =
    let p = err_from_is_err_and read e in
    (ap of_read p.1 ∙ ap of_refusal p.2, ap read_or_blank p.1)
