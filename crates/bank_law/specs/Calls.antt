-- The calls on a bank of voices, what each is given, and the form of what it answers. Assumes
-- nothing.
use Rattle.std.specs.Prelude.{List, [], ℕ, Float}
use Rattle.answer.specs.Reply.{Reply}
use Rattle.answer.specs.Written.{written}
use Rattle.scene.specs.declared.MaskVoice.{MaskVoice}
use Rattle.scene.specs.declared.MaskConfig.{MaskConfig}
use Rattle.lobes.specs.Pan.{Side, left, right}

-- what a read is given beside the bank: the two slices that it writes, the curve, the settings and
-- the table
pub record Reading : Type 0 where
  pub left : List Float
  pub right : List Float
  pub curve : List Float
  pub config : MaskConfig
  pub table : List Float

abbrev pub reading_of : List Float → List Float → List Float → MaskConfig → List Float → Reading
reading_of l r curve config table =
    record { left = l; right = r; curve = curve; config = config; table = table }

-- "calls to add one, take one out, change one, and read the two masks"
pub data Call : Type 0 where
  add : ℕ → MaskVoice → Call
  remove : ℕ → Call
  change : ℕ → MaskVoice → Call
  read : Reading → Call

-- a call's reply, and what the two slices then hold that a read writes
pub record Answer : Type 0 where
  pub reply : Reply
  pub left : List Float
  pub right : List Float

abbrev pub answer_with : Reply → List Float → List Float → Answer
answer_with reply l r = record { reply = reply; left = l; right = r }

-- of a call that writes no slice
abbrev pub told : Reply → Answer
told reply = answer_with reply [] []

-- of a read that is to write these masks
abbrev pub heard : Reading → Reply → (Side → List Float) → Answer
heard reading reply mask =
    answer_with reply (written reply (mask left) reading.left)
    (written reply (mask right) reading.right)
