-- How a C caller passes the motion's settings: the shape is a number, 0..7 in the Rust's order, and
-- any other is refusal 2. Assumes nothing.
use Rattle.std.specs.Prelude.{cond, ℕ, leb, Float}
use Rattle.answer.specs.Refusal.{SETTING}
use Rattle.answer.specs.Reply.{Reply, refused}
use Rattle.scene.specs.declared.MotionConfig.{MotionConfig}
use Rattle.scene.specs.Made.{shape_of}

abbrev pub motion_of : ℕ → Float → Float → Float → MotionConfig
motion_of n depth phase size =
    record { shape = shape_of n; depth_db = depth; phase = phase; size_octaves = size }

-- the reply of a call that is given shape n
abbrev pub with_shape : ℕ → Reply → Reply
with_shape n reply = cond (leb n 7) reply (refused SETTING 0)
