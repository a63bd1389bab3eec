-- `build_plain` gives what the stereo call answers for a shape of 0..7, otherwise refusal 1 or 2.
-- Assumes nothing.
use mathlib.Core.Path.{refl, ap, ◌∙◌}
use mathlib.Core.List.{List}
use Prim.Native.Nat.{◌≤◌}
use native.Mathlib.Omega.{arith}
use lib.ListN.{length}
use lib.Ieee.{Float}
use Rattle.answer.proofs.Tests.{passed-on}
use Rattle.answer.specs.Reply.{of_outcome}
use Rattle.answer.specs.Written.{written}
use Rattle.scene.specs.declared.Scene.{Scene}
use Rattle.lobes.specs.Pan.{Side, left, right}
use Rattle.mixer_masks.specs.Serving.{scene_reply, scene_mask}
use Rattle.crossing.proofs.Configs.{known, unknown, unknown-left}
use Rattle.crossing_mixers.proofs.build_plain.Goals as goal

pub returns-in_err-scene : goal.returns-in_err-scene
returns-in_err-scene c =
    let read = c.in_err-scene.ensures in
    let refused = passed-on _ _ c.from_residual.ensures.1 ∙ unknown _ _ _ refl read.1 read.0 in
    record {
      result_value = refused;
      left_after = rw refused (unknown-left _ _ _ _ read.0);
      right_after = rw refused (unknown-left _ _ _ _ read.0);
    }

pub returns : goal.returns
returns c =
    let a = c.args in
    let m = length a.left.now in
    let n = length a.right.now in
    let curve = a.manual_mask_db.now in
    let table = a.table.now in
    let read = c.in_ok-scene.ensures in
    let same = read.1 in
    let shape : a.plain.now.settings.motion_shape ≤ 7 = omega (arith, read.0) in
    let answer = c.build_scene.ensures in
    let reply = of_outcome c.build_scene.result in
    let new : Side → List Float → Scene → List Float =
    λ side old scene. written reply (scene_mask side curve scene table) old in record {
      result_value = known _ _ _ refl
          (answer.result_value ∙ ap (λ (s : Scene). scene_reply m n curve s table) same)
          shape;
      left_after = answer.left_after ∙ ap (new left a.left.now) same;
      right_after = answer.right_after ∙ ap (new right a.right.now) same;
    }
