-- A bank of voices, in the words of request 105: what each call answers, and the bank that it hands
-- back. A bank that no call made may say any count, so only its first 128 places are looked at.
-- Assumes nothing.
use Rattle.std.specs.Prelude.{Bool, cond, not, List, [], ℕ, ◌+◌, ◌-◌, eqb, ltb, leb, length, take, set, replicate, Option, Some, None}
use Rattle.lists.specs.Folds.{first_bad}
use Rattle.lists.specs.Closing.{closed}
use Rattle.answer.specs.Refusal.{VOICE_COUNT, VOICE, ID}
use Rattle.answer.specs.Reply.{Reply, done, refused}
use Rattle.answer.specs.Written.{written}
use Rattle.limits.specs.Lengths.{most_voices}
use Rattle.scene.specs.declared.MaskVoice.{MaskVoice}
use Rattle.scene.specs.Accepted.{voice_accepted}
use Rattle.scene.specs.Gathered.{held}
use Rattle.scene.specs.Made.{silent_voice}
use Rattle.voice_records.specs.VoiceRecords.{no_record, plain_voice}
use Rattle.voice_bank.specs.declared.Bank.{Bank}

-- the bank that a list of calls begins with
abbrev pub empty : Bank
empty =
    record {
      ids = replicate most_voices 0;
      voices = replicate most_voices (plain_voice silent_voice);
      count = 0;
    }

-- how many places count
abbrev pub held_in : Bank → ℕ
held_in bank = held bank.count

-- the place of an id in a list of them, or the list's length where it is missing
abbrev pub place_in : ℕ → List ℕ → ℕ
place_in id ids = first_bad (λ place other. not (eqb other id)) ids

-- that place where the id is there
abbrev pub found_in : ℕ → List ℕ → Option ℕ
found_in id ids = cond (ltb (place_in id ids) (length ids)) (Some (place_in id ids)) None

-- the place of an id in a bank, and whether it is there
abbrev pub place_of : Bank → ℕ → ℕ
place_of bank id = place_in id (take (held_in bank) bank.ids)

abbrev pub holds : Bank → ℕ → Bool
holds bank id = ltb (place_of bank id) (held_in bank)

-- ---- adding

-- "Adding to a full bank is refusal 3. An id already present when added .. is refusal 10, tried
-- after 5, where the one voice given has place 0"
unfoldable pub add_reply : Bank → ℕ → MaskVoice → Reply
add_reply bank id voice =
    cond (leb most_voices bank.count) (refused VOICE_COUNT 0)
    (cond (not (voice_accepted voice)) (refused VOICE 0)
    (cond (holds bank id) (refused ID 0)
    (done [])))

-- the voice comes after the others
abbrev pub with_voice : Bank → ℕ → MaskVoice → Bank
with_voice bank id voice =
    record {
      ids = set bank.ids bank.count id;
      voices = set bank.voices bank.count (plain_voice voice);
      count = bank.count + 1;
    }

abbrev pub bank_added : Bank → ℕ → MaskVoice → Bank
bank_added bank id voice = written (add_reply bank id voice) (with_voice bank id voice) bank

-- ---- taking out

-- an id "missing when taken out .. is refusal 10"
unfoldable pub remove_reply : Bank → ℕ → Reply
remove_reply bank id = cond (holds bank id) (done []) (refused ID 0)

-- each voice after the place moves into the place before it, and so does each id
abbrev pub without_place : Bank → ℕ → Bank
without_place bank place =
    let last = held_in bank - 1 in
    record {
      ids = closed 0 place last bank.ids;
      voices = closed no_record place last bank.voices;
      count = last;
    }

abbrev pub bank_removed : Bank → ℕ → Bank
bank_removed bank id = written (remove_reply bank id) (without_place bank (place_of bank id)) bank

-- ---- changing

-- an id "missing when .. changed is refusal 10, tried after 5"
unfoldable pub change_reply : Bank → ℕ → MaskVoice → Reply
change_reply bank id voice =
    cond (not (voice_accepted voice)) (refused VOICE 0)
    (cond (holds bank id) (done [])
    (refused ID 0))

-- the voice stands where the one with that id stood
abbrev pub with_changed : Bank → ℕ → MaskVoice → Bank
with_changed bank place voice =
    record {
      ids = bank.ids;
      voices = set bank.voices place (plain_voice voice);
      count = held_in bank;
    }

abbrev pub bank_changed : Bank → ℕ → MaskVoice → Bank
bank_changed bank id voice =
    written (change_reply bank id voice) (with_changed bank (place_of bank id) voice) bank
