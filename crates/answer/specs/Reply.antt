-- What a call answers, in document 01's terms: for each case of each answer its number, its place
-- and its values. A contract equates the reply of what a call returns with the reply that the
-- agreed meaning gives. Assumes nothing.
use Rattle.std.specs.Prelude.{List, [], ◌∷◌, ℕ, Float, Result, Ok, Err}
use Rattle.answer.specs.Refusal.{SIZE_OR_RATE, SETTING, VOICE_COUNT, LENGTH, VOICE, TABLE_ENTRY, LIST_VALUE, OVERLAP, RECORD, ID, STRIP}
use Rattle.answer.specs.declared.Answer.{Answer}
use Rattle.answer.specs.declared.Answer.TheVariants as answer
use Rattle.answer.specs.declared.CoherentGains.{CoherentGains}
use Rattle.answer.specs.declared.Reason.{Reason}
use Rattle.answer.specs.declared.Reason.TheVariants as reason
use Rattle.answer.specs.declared.Refusal.{Refusal}

-- A call answers 0 (done), with the numbers that were asked for, or a refusal number and a place:
-- an index where the row names one, else 0.
pub data Reply : Type 0 where
  done : List Float → Reply
  refused : ℕ → ℕ → Reply

abbrev pub number : Reply → ℕ
number (done vs) = 0
number (refused n p) = n

abbrev pub place : Reply → ℕ
place (done vs) = 0
place (refused n p) = p

-- document 01's number of a reason
abbrev pub number_of : Reason → ℕ
number_of reason.SizeOrRate = SIZE_OR_RATE
number_of reason.Setting = SETTING
number_of reason.VoiceCount = VOICE_COUNT
number_of reason.Length = LENGTH
number_of reason.Voice = VOICE
number_of reason.TableEntry = TABLE_ENTRY
number_of reason.ListValue = LIST_VALUE
number_of reason.Overlap = OVERLAP
number_of reason.Record = RECORD
number_of reason.Id = ID
number_of reason.Strip = STRIP

abbrev pub of_refusal : Refusal → Reply
of_refusal r = refused (number_of r.reason) r.place

abbrev pub of_answer : Answer → Reply
of_answer (answer.Gain g) = done (g ∷ [])
of_answer (answer.Refused r p) = refused (number_of r) p

abbrev pub of_outcome : Result (Unit {0}) Refusal → Reply
of_outcome (Ok u) = done []
of_outcome (Err r) = of_refusal r

abbrev pub of_prepared : Result CoherentGains Refusal → Reply
of_prepared (Ok g) = done (g.window ∷ g.smooth_window ∷ [])
of_prepared (Err r) = of_refusal r

-- the number and the place of an answer that is a Result, whatever it answers where it is done
abbrev pub number_in : {A : Type 0} → Result A Refusal → ℕ
number_in (Ok a) = 0
number_in (Err r) = number_of r.reason

abbrev pub place_in : {A : Type 0} → Result A Refusal → ℕ
place_in (Ok a) = 0
place_in (Err r) = r.place
