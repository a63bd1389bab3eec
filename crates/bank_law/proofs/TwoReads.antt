-- The promise of what two reads leave in lent slices. Assumes nothing.
use mathlib.Core.Path.{◌≡◌, sym, ap, ◌∙◌, subst}
use mathlib.Core.List.{List}
use lib.ListN.{length}
use lib.Ieee.{Float}
use Rattle.answer.specs.Reply.{Reply}
use Rattle.answer.specs.Written.{written}
use Rattle.scene.specs.declared.MaskVoice.{MaskVoice}
use Rattle.scene.specs.F32.{F32Voices}
use Rattle.voice_records.specs.VoiceRecords.{voices_of_record}
use Rattle.voice_bank.specs.declared.Bank.{Bank}
use Rattle.voice_bank.specs.Banks.{empty}
use Rattle.bank_masks.specs.Reading.{voices_in, read_reply, read_mask}
use Rattle.lobes.specs.Pan.{left, right}
use Rattle.bank_law.specs.Calls.{Reading, Call, read, Answer, answer_with}
use Rattle.bank_law.specs.Present.{present}
use Rattle.bank_law.specs.Banks.{answer_of, run}
use Rattle.bank_law.specs.Promises.{F32Reading, BanksNotAudible}
use Rattle.bank_law.proofs.Parameters.{counted-f32}
use Rattle.bank_law.proofs.Runs.{holds-the-present}
use Rattle.bank_law.proofs.Audible.{reads-sound}

abbrev reply_of : Bank → Reading → Reply
reply_of bank reading =
    read_reply (length reading.left) (length reading.right) reading.curve bank
    reading.config reading.table

-- what a read leaves: its reply, and its masks where it is done
pub record Left (bank : Bank) (reading : Reading) (answer : Answer) : Type 0 where
  pub reply :
      answer.reply
      ≡ read_reply (length reading.left) (length reading.right) reading.curve bank
      reading.config reading.table
  pub left_after :
      answer.left
      ≡ written answer.reply
      (read_mask left reading.curve bank reading.config reading.table) reading.left
  pub right-after :
      answer.right
      ≡ written answer.reply
      (read_mask right reading.curve bank reading.config reading.table) reading.right

is-answer :
    (bank : Bank) (reading : Reading) (answer : Answer) → Left bank reading answer
    → answer ≡ answer_of bank (read reading)
is-answer bank reading answer w =
    together w.reply (w.left_after ∙ on-reply left reading.left)
    (w.right-after ∙ on-reply right reading.right)
  where
    on-reply :
        (side : _) (before : List Float)
        → written answer.reply
        (read_mask side reading.curve bank reading.config reading.table) before
        ≡ written (reply_of bank reading)
        (read_mask side reading.curve bank reading.config reading.table) before
    on-reply side before =
        ap (λ (r : Reply). written r
        (read_mask side reading.curve bank reading.config reading.table) before)
        w.reply

    together :
        {reply : Reply} {l r : List Float} → answer.reply ≡ reply → answer.left ≡ l
        → answer.right ≡ r → answer ≡ answer_with reply l r
    together p q s = rw (sym p, sym q, sym s)

present-f32 :
    (bank : Bank) (calls : List Call) → F32Voices (voices_of_record bank.voices)
    → bank ≡ run empty calls → F32Voices (present calls)
present-f32 bank calls f e =
    let are = ap voices_in e ∙ (holds-the-present calls).are in
    subst (λ (voices : List MaskVoice). F32Voices voices) are
    (counted-f32 bank.count (voices_of_record bank.voices) f)

pub banks-not-audible :
    (a b : Bank) (a-reading b-reading : Reading) (a-answer b-answer : Answer)
    → F32Voices (voices_of_record a.voices) → F32Voices (voices_of_record b.voices)
    → F32Reading a-reading → Left a a-reading a-answer → Left b b-reading b-answer
    → BanksNotAudible a b a-reading b-reading a-answer b-answer
banks-not-audible a b ra rb ansa ansb fa fb f x y ja jb e g =
    let on-a = is-answer a ra ansa x ∙ ap (λ (k : Bank). answer_of k (read ra)) e in
    let on-b = is-answer b rb ansb y ∙ ap (λ (k : Bank). answer_of k (read rb)) g in
    rw (on-a, on-b)
    (reads-sound ja jb (present-f32 a ja fa e) (present-f32 b jb fb g) ra rb f)
