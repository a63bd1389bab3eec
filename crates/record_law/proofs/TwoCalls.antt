-- What the contracts of two calls say of them together: the promises hold of what was written and
-- answered. Assumes nothing.
use mathlib.Core.Path.{◌≡◌, sym, ap, ◌∙◌, subst}
use mathlib.Core.List.{List}
use Prim.Native.Nat.{ℕ}
use lib.ListN.{length}
use Rattle.lists.specs.Totals.{All}
use Rattle.lists.specs.Bytes.{Byte}
use Rattle.answer.specs.Reply.{Reply}
use Rattle.answer.specs.Written.{written}
use Rattle.scene.specs.declared.Scene.{Scene}
use Rattle.record_calls.specs.Records.{record_of, write_reply, read_reply, scene_read}
use Rattle.record_law.specs.Law.{SameScene, F32Scene, ComesBack, WrittenAsRead, OneRecord}
use Rattle.record_law.proofs.Law.{scenes-come-back, records-come-back, one-record-each}

-- a write, and a read of what it left
pub comes_back :
    (scene answered : Scene) (n : ℕ) (old after : List ℕ) {write read : Reply} → F32Scene scene
    → write ≡ write_reply n scene → after ≡ written write (record_of scene) old
    → read ≡ read_reply after → answered ≡ scene_read after
    → ComesBack scene write read answered
comes_back scene answered n old after f32 e f g h accepted =
    let same : after ≡ record_of scene =
    f ∙ ap (λ (w : Reply). written w (record_of scene) old) accepted in
    let back = scenes-come-back scene f32 n (sym e ∙ accepted) in (
      g ∙ ap read_reply same ∙ back.0,
      subst (λ (s : Scene). SameScene s scene) (sym (h ∙ ap scene_read same)) back.1,
    )

-- a read, and a write of what it answered
pub written-as-read :
    (bytes old copy : List ℕ) (scene : Scene) {read write : Reply} → All Byte bytes
    → read ≡ read_reply bytes → scene ≡ scene_read bytes → write ≡ write_reply (length old) scene
    → copy ≡ written write (record_of scene) old → length old ≡ length bytes
    → WrittenAsRead bytes read write copy
written-as-read bytes old copy scene small e f g h l accepted =
    let back = records-come-back bytes small (sym e ∙ accepted) in
    let done =
    g ∙ ap (λ (n : ℕ). write_reply n scene) l ∙ ap (write_reply (length bytes)) f ∙ back.0 in (
      done,
      h ∙ ap (λ (w : Reply). written w (record_of scene) old) done ∙ ap record_of f ∙ back.1,
    )

-- two reads
pub one-record :
    (a b : List ℕ) (scene-a scene-b : Scene) {read_a read-b : Reply} → All Byte a → All Byte b
    → read_a ≡ read_reply a → scene-a ≡ scene_read a → read-b ≡ read_reply b → scene-b ≡ scene_read b
    → OneRecord a b read_a read-b scene-a scene-b
one-record a b scene-a scene-b small-a small_b e f g h accepted-a accepted-b same =
    one-record-each a b small-a small_b (sym e ∙ accepted-a) (sym g ∙ accepted-b)
    (subst (λ (s : Scene). SameScene s (scene_read b)) f
    (subst (λ (s : Scene). SameScene scene-a s) h same))
