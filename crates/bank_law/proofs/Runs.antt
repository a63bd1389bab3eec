-- A bank fits the entries that are present: it holds their ids and their voices, in their order.
-- The empty bank fits no entries, each call keeps the two fitting, and of a bank that fits a call
-- answers what it answers by the entries. So do all calls of a list, by recursion over it. Assumes
-- nothing.
use mathlib.Core.Path.{◌≡◌, refl, sym, ap, ◌∙◌, subst}
use mathlib.Core.Bool.{Bool, true, false, cond, not}
use mathlib.Core.List.{List, [], ◌∷◌, ◌++◌}
use Prim.Native.Nat.{ℕ, ◌+◌, ◌-◌, ◌≤◌, ◌<◌}
use native.Mathlib.Numerals.{add-one}
use native.Mathlib.Omega.{arith}
use lib.Dec.{T, leb, ltb}
use lib.ListN.{length, take, set, length-set, length-append, length-map}
use lib.Seq.{take-suc-set, take-set-lt}
use borrow.Author.Tests.{leb-false, ltb-true, le-ltb}
use Rattle.lists.specs.Totals.{All, all_append, all_set}
use Rattle.lists.specs.Maps.{length-map_range}
use Rattle.lists.specs.Mapped.{map-append, map-take, map-set}
use Rattle.lists.specs.Closing.{without, take-closed, length_without, all_without}
use Rattle.lists.specs.Closing.{map-without}
use Rattle.answer.specs.Refusal.{VOICE_COUNT, VOICE, ID}
use Rattle.answer.specs.Reply.{done, refused}
use Rattle.answer.specs.Written.{written}
use Rattle.scene.specs.declared.MaskVoice.{MaskVoice}
use Rattle.scene.specs.Accepted.{voice_accepted}
use Rattle.voice_records.specs.VoiceRecords.{voice_of, plain_voice, voices_of_record, no_record}
use Rattle.voice_records.proofs.RecordVoices.{voice-back}
use Rattle.voice_bank.specs.declared.Bank.{Bank}
use Rattle.voice_bank.specs.Banks.{empty, held_in, place_in, place_of, holds}
use Rattle.voice_bank.specs.Banks.{add_reply, with_voice, bank_added}
use Rattle.voice_bank.specs.Banks.{remove_reply, without_place, bank_removed}
use Rattle.voice_bank.specs.Banks.{change_reply, with_changed, bank_changed}
use Rattle.bank_law.specs.Calls.{Call, add, remove, change, read, Answer, told}
use Rattle.bank_law.specs.Present.{Entry, entry, voices, has, taken_out, changed}
use Rattle.bank_law.specs.Present.{reply_by, answer_by, entered, present_from, answers_from}
use Rattle.bank_law.specs.Banks.{answer_of, stepped, run, answers}
use Rattle.bank_law.specs.Promises.{Holds, HoldsThePresent, AnswersByThePresent}
use Rattle.bank_law.proofs.Entries.{ids, has-place, taken_out_lem, changed-at}
use Rattle.bank_law.proofs.Reading.{read_answer}

abbrev Within : List MaskVoice → Type 0
Within voices = All (λ v. T (voice_accepted v)) voices

record Fit (bank : Bank) (es : List Entry) : Type 0 where
  ids_whole : length bank.ids ≡ 128
  voices-whole : length bank.voices ≡ 128
  count : bank.count ≡ length es
  room : length es ≤ 128
  ids-are : take bank.count bank.ids ≡ ids es
  voices-are : voices_of_record (take bank.count bank.voices) ≡ voices es
  within : Within (voices es)

fit-empty : Fit empty []
fit-empty =
    record {
      ids_whole = refl;
      voices-whole = refl;
      count = refl;
      room = omega arith;
      ids-are = refl;
      voices-are = refl;
      within = tt;
    }

module _ (bank : Bank) (es : List Entry) (f : Fit bank es) where
  -- ---- what the calls look at
  all-count : held_in bank ≡ bank.count
  all-count = simp (le-ltb 128 bank.count (omega (arith, f.count, f.room)))

  same_place : (id : ℕ) → place_of bank id ≡ place_in id (ids es)
  same_place id = rw all-count (ap (place_in id) f.ids-are)

  same-holds : (id : ℕ) → holds bank id ≡ has id es
  same-holds id = rw (same_place id, all-count, f.count) (sym (has-place id es))

  -- ---- the answers
  same_add : (id : ℕ) (v : MaskVoice) → add_reply bank id v ≡ reply_by es (add id v)
  unfolding add_reply reply_by
  same_add id v = rw (same-holds id, f.count) refl

  same-remove : (id : ℕ) → remove_reply bank id ≡ reply_by es (remove id)
  unfolding remove_reply reply_by
  same-remove id = rw (same-holds id) refl

  same-change : (id : ℕ) (v : MaskVoice) → change_reply bank id v ≡ reply_by es (change id v)
  unfolding change_reply reply_by
  same-change id v = rw (same-holds id) refl

  holds-entries : Holds bank (voices es)
  holds-entries =
      let n = length-map es (λ (e : Entry). e.voice) in
      record {
        are = sym (map-take voice_of bank.count bank.voices) ∙ f.voices-are;
        count = f.count ∙ sym n;
        room = omega (arith, n, f.room);
        within = f.within;
      }

  answer-step : (call : Call) → answer_of bank call ≡ answer_by es call
  unfolding reply_by
  answer-step (add id v) = ap told (same_add id v)
  answer-step (remove id) = ap told (same-remove id)
  answer-step (change id v) = ap told (same-change id v)
  answer-step (read reading) = read_answer bank (voices es) reading holds-entries

  -- ---- adding
  fit-added :
      (id : ℕ) (v : MaskVoice) → length es < 128 → T (voice_accepted v)
      → Fit (with_voice bank id v) (es ++ entry id v ∷ [])
  fit-added id v l t =
      let n = bank.count in
      let more = length-append es (entry id v ∷ []) in
      let ids-end = take-suc-set bank.ids n id (omega (arith, f.ids_whole, f.count)) in
      let voices-end =
      take-suc-set bank.voices n (plain_voice v) (omega (arith, f.voices-whole, f.count)) in
      record {
        ids_whole = length-set bank.ids n id ∙ f.ids_whole;
        voices-whole = length-set bank.voices n (plain_voice v) ∙ f.voices-whole;
        count = omega (arith, f.count, more);
        room = omega (arith, more);
        ids-are =
            ap (λ k. take k (set bank.ids n id)) (add-one n)
            ∙ ids-end
            ∙ ap (λ l. l ++ id ∷ []) f.ids-are
            ∙ sym (map-append (λ (e : Entry). e.id) es (entry id v ∷ []));
        voices-are =
            ap (λ k. voices_of_record (take k (set bank.voices n (plain_voice v)))) (add-one n)
            ∙ ap voices_of_record voices-end
            ∙ map-append voice_of (take n bank.voices) (plain_voice v ∷ [])
            ∙ ap (λ l. l ++ voice_of (plain_voice v) ∷ []) f.voices-are
            ∙ ap (λ w. voices es ++ w ∷ []) (voice-back v)
            ∙ sym (map-append (λ (e : Entry). e.voice) es (entry id v ∷ []));
        within =
            rw (map-append (λ (e : Entry). e.voice) es (entry id v ∷ []))
            (all_append (λ v. T (voice_accepted v)) (voices es) (v ∷ []) f.within (t, tt));
      }

  fit-add : (id : ℕ) (v : MaskVoice) → Fit (bank_added bank id v) (entered es (add id v))
  unfolding reply_by
  fit-add id v =
      rw (same_add id v)
      (go (leb 128 (length es)) refl (voice_accepted v) refl (has id es))
    where
      go :
          (full : Bool) → leb 128 (length es) ≡ full → (ok : Bool) → voice_accepted v ≡ ok
          → (there : Bool)
          → Fit
          (written
          (cond full (refused VOICE_COUNT 0)
          (cond (not ok) (refused VOICE 0) (cond there (refused ID 0) (done []))))
          (with_voice bank id v) bank)
          (written
          (cond full (refused VOICE_COUNT 0)
          (cond (not ok) (refused VOICE 0) (cond there (refused ID 0) (done []))))
          (es ++ entry id v ∷ []) es)
      go true p ok q there = f
      go false p false q there = f
      go false p true q true = f
      go false p true q false =
          fit-added id v (leb-false 128 (length es) p) (subst T (sym q) tt)

  -- ---- taking out
  fit-removed :
      (id : ℕ) → place_in id (ids es) < length es
      → Fit (without_place bank (place_in id (ids es))) (taken_out id es)
  fit-removed id l =
      let p = place_in id (ids es) in
      let n = bank.count in
      let h : held_in bank ≡ n = all-count in
      let e = taken_out_lem id es in
      let ids-out =
      take-closed 0 bank.ids p n (omega (arith, f.count))
      (omega (arith, f.ids_whole, f.count, f.room)) in
      let voices-out =
      take-closed no_record bank.voices p n (omega (arith, f.count))
      (omega (arith, f.voices-whole, f.count, f.room)) in
      let fewer : length (taken_out id es) ≡ length es - 1 =
      sym (length-map (taken_out id es) (λ (e : Entry). e.id))
      ∙ ap length e.of-ids
      ∙ length_without p (ids es) (omega (arith, length-map es (λ (e : Entry). e.id)))
      ∙ ap (λ k. k - 1) (length-map es (λ (e : Entry). e.id)) in
      rw h
      (record {
        ids_whole = length-map_range _ p (n - 1) bank.ids ∙ f.ids_whole;
        voices-whole = length-map_range _ p (n - 1) bank.voices ∙ f.voices-whole;
        count = omega (arith, fewer, f.count);
        room = omega (arith, fewer, f.room);
        ids-are = ids-out ∙ ap (without p) f.ids-are ∙ sym e.of-ids;
        voices-are =
            ap voices_of_record voices-out
            ∙ map-without voice_of p (take n bank.voices)
            ∙ ap (without p) f.voices-are
            ∙ sym e.of-voices;
        within =
            rw e.of-voices (all_without (λ v. T (voice_accepted v)) p (voices es) f.within);
      })

  fit-remove : (id : ℕ) → Fit (bank_removed bank id) (entered es (remove id))
  unfolding reply_by
  fit-remove id =
      rw (same-remove id, same_place id)
      (go (has id es) (sym (has-place id es)))
    where
      go :
          (there : Bool) → ltb (place_in id (ids es)) (length es) ≡ there
          → Fit
          (written (cond there (done []) (refused ID 0)) (without_place bank (place_in id (ids es)))
          bank)
          (written (cond there (done []) (refused ID 0)) (taken_out id es) es)
      go true p = fit-removed id (ltb-true (place_in id (ids es)) (length es) p)
      go false p = f

  -- ---- changing
  fit-changed :
      (id : ℕ) (v : MaskVoice) → place_in id (ids es) < length es → T (voice_accepted v)
      → Fit (with_changed bank (place_in id (ids es)) v) (changed id v es)
  fit-changed id v l t =
      let p = place_in id (ids es) in
      let n = bank.count in
      let h : held_in bank ≡ n = all-count in
      let e = changed-at id v es in
      let same : length (changed id v es) ≡ length es =
      sym (length-map (changed id v es) (λ (e : Entry). e.id))
      ∙ ap length e.of-ids
      ∙ length-map es (λ (e : Entry). e.id) in
      rw h
      (record {
        ids_whole = f.ids_whole;
        voices-whole = length-set bank.voices p (plain_voice v) ∙ f.voices-whole;
        count = f.count ∙ sym same;
        room = omega (arith, same, f.room);
        ids-are = f.ids-are ∙ sym e.of-ids;
        voices-are =
            ap voices_of_record
            (take-set-lt n bank.voices p (plain_voice v) (omega (arith, f.count)))
            ∙ map-set voice_of (take n bank.voices) p (plain_voice v)
            ∙ ap (λ l. set l p (voice_of (plain_voice v))) f.voices-are
            ∙ ap (set (voices es) p) (voice-back v)
            ∙ sym e.of-voices;
        within =
            rw e.of-voices
            (all_set (λ v. T (voice_accepted v)) (voices es) p v f.within t);
      })

  fit-change : (id : ℕ) (v : MaskVoice) → Fit (bank_changed bank id v) (entered es (change id v))
  unfolding reply_by
  fit-change id v =
      rw (same-change id v, same_place id)
      (go (voice_accepted v) refl (has id es) (sym (has-place id es)))
    where
      go :
          (ok : Bool) → voice_accepted v ≡ ok
          → (there : Bool) → ltb (place_in id (ids es)) (length es) ≡ there
          → Fit
          (written (cond (not ok) (refused VOICE 0) (cond there (done []) (refused ID 0)))
          (with_changed bank (place_in id (ids es)) v) bank)
          (written (cond (not ok) (refused VOICE 0) (cond there (done []) (refused ID 0)))
          (changed id v es) es)
      go false q there p = f
      go true q true p =
          fit-changed id v (ltb-true (place_in id (ids es)) (length es) p) (subst T (sym q) tt)
      go true q false p = f

fit-step :
    (bank : Bank) (es : List Entry) (call : Call) → Fit bank es
    → Fit (stepped bank call) (entered es call)
fit-step bank es (add id v) f = fit-add bank es f id v
fit-step bank es (remove id) f = fit-remove bank es f id
fit-step bank es (change id v) f = fit-change bank es f id v
fit-step bank es (read reading) f = f

-- ---- every list of calls
fit-run :
    (bank : Bank) (es : List Entry) (calls : List Call) → Fit bank es
    → Fit (run bank calls) (present_from es calls)
unfolding run present_from
fit-run bank es [] f = f
fit-run bank es (call ∷ calls) f =
    fit-run (stepped bank call) (entered es call) calls (fit-step bank es call f)

answers-run :
    (bank : Bank) (es : List Entry) (calls : List Call) → Fit bank es
    → answers bank calls ≡ answers_from es calls
unfolding answers answers_from
answers-run bank es [] f = refl
answers-run bank es (call ∷ calls) f =
    rw (answer-step bank es f call)
    (ap (λ (l : List Answer). answer_by es call ∷ l)
    (answers-run (stepped bank call) (entered es call) calls (fit-step bank es call f)))

pub holds-the-present : HoldsThePresent
holds-the-present calls =
    holds-entries (run empty calls) (present_from [] calls) (fit-run empty [] calls fit-empty)

pub answers-by-the-present : AnswersByThePresent
answers-by-the-present calls = answers-run empty [] calls fit-empty
