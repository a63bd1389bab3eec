-- A whole scene record, in the words of request 104: the bytes that a scene is written as, the
-- scene that a record holds, and what the two calls answer. Assumes nothing.
use Rattle.std.specs.Prelude.{Bool, true, cond, ◌&&◌, List, [], ◌++◌, ℕ, eqb, length, take, drop, Result, Ok, Err}
use Rattle.answer.specs.Refusal.{RECORD}
use Rattle.answer.specs.Reply.{Reply, done, refused, of_refusal}
use Rattle.answer.specs.declared.Refusal.{Refusal}
use Rattle.answer.specs.Written.{written}
use Rattle.limits.specs.Lengths.{record_head, record_length}
use Rattle.scene.specs.declared.MaskVoice.{MaskVoice}
use Rattle.scene.specs.declared.Scene.{Scene}
use Rattle.scene.specs.Gathered.{gathered}
use Rattle.scene.specs.Made.{blank_scene}
use Rattle.refusals.specs.Masks.{first, settings_reply, voices_reply}
use Rattle.record_heads.specs.Heads.{head_bytes, head_in, count_of, zero_bits, settings_in}
use Rattle.record_voices.specs.Voices.{voices_bytes, voices_of, pitches_allowed}

-- ---- writing

-- the voices that count
abbrev pub counted : Scene → List MaskVoice
counted scene = take scene.count scene.voices

-- "A head is 31 bytes, a voice 29": the head, then each voice
unfoldable pub record_of : Scene → List ℕ
record_of scene = head_bytes scene.config scene.count ++ voices_bytes (counted scene)

-- `write_scene` on a slice of n bytes: 1, 2, 3, "a slice of another length is refusal 4", 5
unfoldable pub write_reply : ℕ → Scene → Reply
write_reply n scene =
    let lengths = eqb n (record_length scene.count) in
    first (settings_reply scene.config) (voices_reply scene.voices scene.count lengths)

-- ---- reading
abbrev pub count_in : List ℕ → ℕ
count_in bytes = count_of (head_in bytes)

-- all the voices counted, also where they are over 128
abbrev pub voices_in : List ℕ → List MaskVoice
voices_in bytes = voices_of (drop record_head bytes) (count_in bytes)

-- the length is "31 plus 29 for each voice counted", and no forbidden bit is set
unfoldable pub well_formed : List ℕ → Bool
well_formed bytes =
    eqb (length bytes) (record_length (count_in bytes))
    && (zero_bits (head_in bytes) && pitches_allowed (drop record_head bytes) (count_in bytes))

-- Refusal 9: "A record read whose length isn't 31 plus 29 for each voice counted, or with a
-- forbidden bit set"
abbrev pub form_reply : List ℕ → Reply
form_reply bytes = cond (well_formed bytes) (done []) (refused RECORD 0)

-- `read_scene`: refusal 9, "tried before 1; after it the earlier tests run on the fields". There is
-- no slice whose length 4 could test.
unfoldable pub read_reply : List ℕ → Reply
read_reply bytes =
    let voices-reply = voices_reply (voices_in bytes) (count_in bytes) true in
    first (form_reply bytes) (first (settings_reply (settings_in bytes)) voices-reply)

-- the scene of a record, its voices in the core's array
unfoldable pub scene_in : List ℕ → Scene
scene_in bytes =
    record {
      config = settings_in bytes;
      voices = gathered (voices_in bytes);
      count = count_in bytes;
    }

-- the scene that stands beside the answer: the record's where the call is done, else the blank one
abbrev pub scene_read : List ℕ → Scene
scene_read bytes = written (read_reply bytes) (scene_in bytes) blank_scene

-- ---- what a call of `read_scene` answers: the reply that it says, and its scene, or where it is
-- refused the blank one
abbrev pub of_read : Result Scene Refusal → Reply
of_read (Ok scene) = done []
of_read (Err refusal) = of_refusal refusal

abbrev pub read_or_blank : Result Scene Refusal → Scene
read_or_blank (Ok scene) = scene
read_or_blank (Err refusal) = blank_scene
