-- The promises of request 104 on whole calls of `write_scene` and `read_scene`. Assumes nothing.
use Rattle.std.specs.Prelude.{◌≡◌, List, [], ℕ, length}
use Rattle.lists.specs.Totals.{All}
use Rattle.lists.specs.Bytes.{Byte}
use Rattle.answer.specs.Reply.{Reply, done}
use Rattle.scene.specs.declared.Scene.{Scene}
use Rattle.scene.specs.F32.{F32Settings, F32Voices}
use Rattle.record_calls.specs.Records.{counted, record_of, write_reply, read_reply, scene_read}

-- the settings, the count and each voice counted are the same data: "to the bit", so that the sign
-- of a zero counts
pub record SameScene (a b : Scene) : Type 0 where
  pub settings : a.config ≡ b.config
  pub count : a.count ≡ b.count
  pub voices : counted a ≡ counted b

-- a call answers 0
abbrev pub Accepted : Reply → Type 0
Accepted reply = reply ≡ done []

-- every number of a scene is an f32, which is what the types of a call's parameters say
pub record F32Scene (scene : Scene) : Type 0 where
  pub settings-f32 : F32Settings scene.config
  pub voices-f32 : F32Voices scene.voices

-- ---- "Every valid scene comes back to the bit"

-- where the write is accepted, so is the read, and it answers the scene
abbrev pub ComesBack : Scene → Reply → Reply → Scene → Type 0
ComesBack scene written read answered = Accepted written → Accepted read × SameScene answered scene

-- of every scene and every slice of n bytes
abbrev pub ScenesComeBack : Type 0
ScenesComeBack =
    (scene : Scene) → F32Scene scene → (n : ℕ)
    → ComesBack scene (write_reply n scene) (read_reply (record_of scene)) (scene_read (record_of scene))

-- ---- "every accepted record is the one its scene is written as"

-- where the read is accepted, so is the write of its scene to a slice of the record's length, and
-- the slice is then the record
abbrev pub WrittenAsRead : List ℕ → Reply → Reply → List ℕ → Type 0
WrittenAsRead bytes read written copy = Accepted read → Accepted written × (copy ≡ bytes)

-- of every record; its entries are bytes, which is what the type of the call's parameter says
abbrev pub RecordsComeBack : Type 0
RecordsComeBack =
    (bytes : List ℕ) → All Byte bytes
    → WrittenAsRead bytes (read_reply bytes) (write_reply (length bytes) (scene_read bytes))
    (record_of (scene_read bytes))

-- ---- so no two records have one scene
abbrev pub OneRecord : List ℕ → List ℕ → Reply → Reply → Scene → Scene → Type 0
OneRecord a b read_a read-b scene-a scene-b =
    Accepted read_a → Accepted read-b → SameScene scene-a scene-b → a ≡ b

abbrev pub OneRecordEach : Type 0
OneRecordEach =
    (a b : List ℕ) → All Byte a → All Byte b
    → OneRecord a b (read_reply a) (read_reply b) (scene_read a) (scene_read b)
