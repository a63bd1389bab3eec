-- What request 105 promises of every list of calls from an empty bank. Assumes nothing.
use Rattle.std.specs.Prelude.{◌≡◌, List, [], ℕ, ◌≤◌, ◌<◌, T, length, get_or}
use Rattle.lists.specs.Totals.{All}
use Rattle.answer.specs.Reply.{done}
use Rattle.limits.specs.Lengths.{most_voices}
use Rattle.scene.specs.declared.MaskVoice.{MaskVoice}
use Rattle.scene.specs.Accepted.{voice_accepted, no_voice}
use Rattle.scene.specs.F32.{F32Voice, F32Settings, F32List}
use Rattle.voice_bank.specs.declared.Bank.{Bank}
use Rattle.voice_bank.specs.Banks.{empty}
use Rattle.bank_masks.specs.Reading.{voices_in}
use Rattle.chord_law.specs.SameVoices.{SameVoice}
use Rattle.chord_law.specs.Masks.{EqualMasks}
use Rattle.bank_law.specs.Calls.{Reading, Call, add, remove, change, read, Answer}
use Rattle.bank_law.specs.Present.{answers_from, present}
use Rattle.bank_law.specs.Banks.{answer_of, run, answers}

-- ---- "For every list of these calls from an empty bank, refused ones among them, the masks read
-- are those of the stereo call on the voices then present"

-- every call answers by the voices that are present when it is made
abbrev pub AnswersByThePresent : Type 0
AnswersByThePresent = (calls : List Call) → answers empty calls ≡ answers_from [] calls

-- and the bank holds them: "up to 128 voices", each within its limits, so that no read answers 3 or
-- 5
pub record Holds (bank : Bank) (voices : List MaskVoice) : Type 0 where
  pub are : voices_in bank ≡ voices
  pub count : bank.count ≡ length voices
  pub room : length voices ≤ most_voices
  pub within : All (λ v. T (voice_accepted v)) voices

abbrev pub HoldsThePresent : Type 0
HoldsThePresent = (calls : List Call) → Holds (run empty calls) (present calls)

-- ---- "The order of arrival must not be audible"

-- a voice of the list, by its place, that is the same
pub record Among (voice : MaskVoice) (voices : List MaskVoice) : Type 0 where
  pub place : ℕ
  pub there : place < length voices
  pub same : SameVoice voice (get_or voices place no_voice)

abbrev pub AllAmong : List MaskVoice → List MaskVoice → Type 0
AllAmong xs ys = (i : ℕ) → i < length xs → Among (get_or xs i no_voice) ys

-- "the same voices": each of one list is among the other's; ids, repeats and the order do not count
abbrev pub SameVoices : List MaskVoice → List MaskVoice → Type 0
SameVoices xs ys = AllAmong xs ys × AllAmong ys xs

-- "read with one table, one curve .. and the same settings", into slices of the same lengths
pub record OneReading (a b : Reading) : Type 0 where
  pub left-length : length a.left ≡ length b.left
  pub right-length : length a.right ≡ length b.right
  pub curve : a.curve ≡ b.curve
  pub config : a.config ≡ b.config
  pub table : a.table ≡ b.table

-- the replies are the same, and where the reads are done, the masks are equal
pub record SameSound (a b : Answer) : Type 0 where
  pub reply : a.reply ≡ b.reply
  pub left-masks : a.reply ≡ done [] → EqualMasks a.left b.left
  pub right-masks : a.reply ≡ done [] → EqualMasks a.right b.right

-- every number of a voice that a call is given is an f32, which is what the type says, and so is
-- every number that a read is given
abbrev pub F32Call : Call → Type 0
F32Call (add id voice) = F32Voice voice
F32Call (remove id) = Unit
F32Call (change id voice) = F32Voice voice
F32Call (read reading) = Unit

pub record F32Reading (reading : Reading) : Type 0 where
  pub curve-f32 : F32List reading.curve
  pub settings-f32 : F32Settings reading.config
  pub table-f32 : F32List reading.table

-- "banks of the same voices, read with one table, one curve .. and the same settings, give equal
-- masks": of what two reads answer, where these lists of calls have led to the two banks. The
-- request says it of a curve without NaN; it holds of every curve since a NaN of it has a rank.
abbrev pub NotAudible : List Call → List Call → Reading → Reading → Answer → Answer → Type 0
NotAudible a-calls b-calls a-reading b-reading a-answer b-answer =
    SameVoices (present a-calls) (present b-calls)
    → OneReading a-reading b-reading
    → SameSound a-answer b-answer

-- of every two lists of calls
abbrev pub OrderNotAudible : Type 0
OrderNotAudible =
    (a-calls b-calls : List Call) → All F32Call a-calls → All F32Call b-calls
    → (a b : Reading) → F32Reading a
    → NotAudible a-calls b-calls a b (answer_of (run empty a-calls) (read a))
    (answer_of (run empty b-calls) (read b))

-- of two banks, however calls from an empty bank have led to them
abbrev pub BanksNotAudible : Bank → Bank → Reading → Reading → Answer → Answer → Type 0
BanksNotAudible a-bank b-bank a b a-answer b-answer =
    (a-calls b-calls : List Call) → a-bank ≡ run empty a-calls → b-bank ≡ run empty b-calls
    → NotAudible a-calls b-calls a b a-answer b-answer
