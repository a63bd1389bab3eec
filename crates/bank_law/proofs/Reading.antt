-- A read of a bank that holds a list of voices is the stereo call on the list. Assumes nothing.
use mathlib.Core.Path.{◌≡◌, refl, sym, ap, ◌∙◌}
use mathlib.Core.Bool.{Bool}
use mathlib.Core.List.{List}
use Prim.Native.Nat.{ℕ}
use lib.ListN.{length, take}
use lib.Seq.{take-length}
use lib.Ieee.{Float}
use Rattle.answer.specs.Reply.{Reply}
use Rattle.scene.specs.declared.MaskVoice.{MaskVoice}
use Rattle.scene.specs.declared.MaskConfig.{MaskConfig}
use Rattle.voice_records.specs.VoiceRecords.{voices_of_record}
use Rattle.voice_bank.specs.declared.Bank.{Bank}
use Rattle.bank_masks.specs.Reading.{read_reply}
use Rattle.mask_calls.specs.LentStereo.{lent_reply, lent_mask}
use Rattle.refusals.specs.Masks.{voices_reply}
use Rattle.chord_law.proofs.AcceptedVoices.{fits, others, by-voices}
use Rattle.bank_law.specs.Calls.{Reading, read, Answer, heard}
use Rattle.bank_law.specs.Banks.{answer_of}
use Rattle.bank_law.specs.Promises.{Holds}

-- what the stereo call answers to a read on these voices
abbrev pub lent_answer : List MaskVoice → Reading → Answer
lent_answer voices reading =
    heard reading
    (lent_reply (length reading.left) (length reading.right) reading.curve voices
    reading.config reading.table)
    (λ side. lent_mask side reading.curve voices reading.config reading.table)

-- ---- the tests of the voices look at those that count
same-counted :
    (xs ys : List MaskVoice) (n : ℕ) (lengths : Bool) → take n xs ≡ take n ys
    → voices_reply xs n lengths ≡ voices_reply ys n lengths
unfolding voices_reply
same-counted xs ys n lengths e = rw e refl

module _ (m n : ℕ) (curve : List Float) (config : MaskConfig) (table : List Float)
    (bank : Bank) (voices : List MaskVoice) (h : Holds bank voices) where
  abbrev lengths : Bool
  lengths = fits m n curve config table

  abbrev answered : Reply → Reply
  answered = others m n curve config table

  counted : take bank.count (voices_of_record bank.voices) ≡ take bank.count voices
  counted = h.are ∙ sym (take-length voices) ∙ ap (λ (k : ℕ). take k voices) (sym h.count)

  read-reply : read_reply m n curve bank config table ≡ lent_reply m n curve voices config table
  read-reply =
      by-voices m n curve config table (voices_of_record bank.voices) bank.count
      ∙ ap answered
      (same-counted (voices_of_record bank.voices) voices bank.count lengths counted)
      ∙ ap (λ (k : ℕ). answered (voices_reply voices k lengths)) h.count
      ∙ sym (by-voices m n curve config table voices (length voices))

pub read_answer :
    (bank : Bank) (voices : List MaskVoice) (reading : Reading) → Holds bank voices
    → answer_of bank (read reading) ≡ lent_answer voices reading
read_answer bank voices reading h =
    rw (
      read-reply (length reading.left) (length reading.right) reading.curve
          reading.config reading.table bank voices h,
      h.are,
    ) refl
