-- The voices present after a list of calls, and what the calls answer by them: the words of request
-- 105, with no bank in them. Assumes nothing.
use Rattle.std.specs.Prelude.{Bool, false, cond, not, ◌||◌, List, [], ◌∷◌, ◌++◌, map, ℕ, eqb, leb, length}
use Rattle.answer.specs.Refusal.{VOICE_COUNT, VOICE, ID}
use Rattle.answer.specs.Reply.{Reply, done, refused}
use Rattle.answer.specs.Written.{written}
use Rattle.limits.specs.Lengths.{most_voices}
use Rattle.scene.specs.declared.MaskVoice.{MaskVoice}
use Rattle.scene.specs.Accepted.{voice_accepted}
use Rattle.mask_calls.specs.LentStereo.{lent_reply, lent_mask}
use Rattle.bank_law.specs.Calls.{Call, add, remove, change, read}
use Rattle.bank_law.specs.Calls.{Answer, told, heard}

-- a voice that is present, with its id
pub record Entry : Type 0 where
  pub id : ℕ
  pub voice : MaskVoice

abbrev pub entry : ℕ → MaskVoice → Entry
entry id voice = record { id = id; voice = voice }

-- the voices of the entries, in the order of arrival
abbrev pub voices : List Entry → List MaskVoice
voices entries = map (λ e. e.voice) entries

-- ---- one id
unfoldable pub has : ℕ → List Entry → Bool
has id [] = false
has id (e ∷ es) = eqb e.id id || has id es

-- the entry with that id is gone, and the others keep their order
unfoldable pub taken_out : ℕ → List Entry → List Entry
taken_out id [] = []
taken_out id (e ∷ es) = cond (eqb e.id id) es (e ∷ taken_out id es)

-- the entry with that id has another voice, and keeps its place
unfoldable pub changed : ℕ → MaskVoice → List Entry → List Entry
changed id voice [] = []
changed id voice (e ∷ es) =
    cond (eqb e.id id) (entry e.id voice ∷ es) (e ∷ changed id voice es)

-- ---- one call

-- "Adding to a full bank is refusal 3. An id already present when added, or missing when taken out
-- or changed, is refusal 10, tried after 5, where the one voice given has place 0." A read is the
-- stereo call on the voices present.
unfoldable pub reply_by : List Entry → Call → Reply
reply_by entries (add id voice) =
    cond (leb most_voices (length entries)) (refused VOICE_COUNT 0)
    (cond (not (voice_accepted voice)) (refused VOICE 0)
    (cond (has id entries) (refused ID 0)
    (done [])))
reply_by entries (remove id) = cond (has id entries) (done []) (refused ID 0)
reply_by entries (change id voice) =
    cond (not (voice_accepted voice)) (refused VOICE 0)
    (cond (has id entries) (done [])
    (refused ID 0))
reply_by entries (read reading) =
    lent_reply (length reading.left) (length reading.right) reading.curve (voices entries)
    reading.config reading.table

abbrev pub answer_by : List Entry → Call → Answer
answer_by entries (read reading) =
    heard reading (reply_by entries (read reading))
    (λ side. lent_mask side reading.curve (voices entries) reading.config reading.table)
answer_by entries (add id voice) = told (reply_by entries (add id voice))
answer_by entries (remove id) = told (reply_by entries (remove id))
answer_by entries (change id voice) = told (reply_by entries (change id voice))

-- the entries where the call is done; a refused call changes nothing, and no read does
abbrev pub entered : List Entry → Call → List Entry
entered entries (add id voice) =
    written (reply_by entries (add id voice)) (entries ++ entry id voice ∷ []) entries
entered entries (remove id) = written (reply_by entries (remove id)) (taken_out id entries) entries
entered entries (change id voice) =
    written (reply_by entries (change id voice)) (changed id voice entries) entries
entered entries (read reading) = entries

-- ---- every list of calls, from entries on
unfoldable pub present_from : List Entry → List Call → List Entry
present_from entries [] = entries
present_from entries (call ∷ calls) = present_from (entered entries call) calls

unfoldable pub answers_from : List Entry → List Call → List Answer
answers_from entries [] = []
answers_from entries (call ∷ calls) =
    answer_by entries call ∷ answers_from (entered entries call) calls

-- the voices present after a list of calls from nothing
abbrev pub present : List Call → List MaskVoice
present calls = voices (present_from [] calls)
