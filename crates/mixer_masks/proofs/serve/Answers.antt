-- `serve` meets its contract: whom `turn` names, `build_named` builds. Assumes nothing.
use mathlib.Core.List.{List}
use Prim.Native.Nat.{ℕ}
use lib.ListN.{length}
use lib.Ieee.{Float}
use Rattle.answer.specs.Reply.{Reply}
use Rattle.lobes.specs.Pan.{Side, left, right}
use Rattle.mixer_masks.specs.Serving.{scene_reply, scene_mask, scene_at}
use Rattle.mixer_masks.proofs.Named.{reply-named, mask-named}
use Rattle.mixer_masks.proofs.serve.Goals as goal

pub returns : goal.returns
returns c =
    let a = c.args in
    let curve = a.manual_mask_db.now in
    let table = a.table.now in
    let reply : ℕ → Reply =
    λ strip. scene_reply (length a.left.now) (length a.right.now) curve
    (scene_at a.scenes.now strip) table in
    let mask : Side → ℕ → List Float =
    λ side strip. scene_mask side curve (scene_at a.scenes.now strip) table in
    let who = c.turn-named.ensures.named_value in
    let there = c.scene_place.ensures.0 in
    let built = c.build_named-outcome.ensures in
    let named = c.turn-named.result in
    let place = c.scene_place.result in
    let answer = reply-named reply named place there built.result_value in record {
      named_value = who;
      mixer_value = c.turn-named.ensures.mixer_value;
      outcome_value = rw (← who) answer;
      left_after = rw (← who)
          (mask-named reply named place there (mask left) a.left.now answer
          built.left_after);
      right_after = rw (← who)
          (mask-named reply named place there (mask right) a.right.now answer
          built.right_after);
    }
