-- Lists of calls on a bank: the bank that they hand back in the end, and what each answers. Assumes
-- nothing.
use Rattle.std.specs.Prelude.{List, [], ◌∷◌, length}
use Rattle.voice_bank.specs.declared.Bank.{Bank}
use Rattle.voice_bank.specs.Banks.{add_reply, bank_added, remove_reply, bank_removed}
use Rattle.voice_bank.specs.Banks.{change_reply, bank_changed}
use Rattle.bank_masks.specs.Reading.{read_reply, read_mask}
use Rattle.bank_law.specs.Calls.{Call, add, remove, change, read}
use Rattle.bank_law.specs.Calls.{Answer, told, heard}

-- what `add_voice`, `remove_voice`, `change_voice` and `read_masks` answer
abbrev pub answer_of : Bank → Call → Answer
answer_of bank (add id voice) = told (add_reply bank id voice)
answer_of bank (remove id) = told (remove_reply bank id)
answer_of bank (change id voice) = told (change_reply bank id voice)
answer_of bank (read reading) =
    heard reading
    (read_reply (length reading.left) (length reading.right) reading.curve bank
    reading.config reading.table)
    (λ side. read_mask side reading.curve bank reading.config reading.table)

-- the bank that they hand back; a read hands none back
abbrev pub stepped : Bank → Call → Bank
stepped bank (add id voice) = bank_added bank id voice
stepped bank (remove id) = bank_removed bank id
stepped bank (change id voice) = bank_changed bank id voice
stepped bank (read reading) = bank

unfoldable pub run : Bank → List Call → Bank
run bank [] = bank
run bank (call ∷ calls) = run (stepped bank call) calls

unfoldable pub answers : Bank → List Call → List Answer
answers bank [] = []
answers bank (call ∷ calls) = answer_of bank call ∷ answers (stepped bank call) calls
