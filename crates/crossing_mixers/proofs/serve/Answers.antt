-- `serve` meets its contract: whom `turn` names, `build_named` builds. Assumes nothing.
use Rattle.answer.proofs.Replies.{number-in-outcome, place-in-outcome}
use mathlib.Core.List.{List}
use Prim.Native.Nat.{ℕ}
use lib.ListN.{length}
use lib.Ieee.{Float}
use Rattle.answer.specs.Reply.{Reply}
use Rattle.lobes.specs.Pan.{Side, left, right}
use Rattle.mixer_masks.proofs.Named.{reply-named, mask-named}
use Rattle.crossing_mixers.specs.Mixed.{plain_reply, plain_mask, plain_at}
use Rattle.crossing_mixers.proofs.serve.Goals as goal

pub returns : goal.returns
returns c =
    let a = c.args in
    let curve = a.manual_mask_db.now in
    let table = a.table.now in
    let reply : ℕ → Reply =
    λ strip. plain_reply (length a.left.now) (length a.right.now) curve
    (plain_at a.given strip) table in
    let mask : Side → ℕ → List Float =
    λ side strip. plain_mask side curve (plain_at a.given strip) table in
    let turned = c.turn-named.ensures in
    let named = c.turn-named.result in
    let place = c.scene_place.result in
    let there = c.scene_place.ensures.0 in
    let built = c.build_named-outcome.ensures in
    let answer = reply-named reply named place there built.result_value in record {
      value = simp (
        c.number.ensures,
        number-in-outcome,
        c.place.ensures,
        place-in-outcome,
        c.is_some.ensures,
        c.strip_of.ensures,
        answer,
        turned.named_value,
        turned.mixer_value,
      );
      left_after = rw (← turned.named_value, ← answer)
          (mask-named reply named place there (mask left) a.left.now answer built.left_after);
      right_after = rw (← turned.named_value, ← answer)
          (mask-named reply named place there (mask right) a.right.now answer
          built.right_after);
    }
