-- What a stereo call leaves behind: its answer, and in its two slices the masks where it is done,
-- else what they held before. Assumes nothing.
use Rattle.std.specs.Prelude.{◌≡◌, List, Float}
use Rattle.answer.specs.Reply.{Reply}
use Rattle.answer.specs.Written.{written}
use Rattle.lobes.specs.Pan.{left, right}
use Rattle.chord_law.specs.Calls.{Call, reply_to, mask_on}

-- the slices held l and r before, and hold l' and r' after
pub record Leaves (call : Call) (l r : List Float) (reply : Reply) (l' r' : List Float)
    : Type 0 where
  pub answer : reply ≡ reply_to call
  pub left_after : l' ≡ written reply (mask_on left call) l
  pub right-after : r' ≡ written reply (mask_on right call) r
