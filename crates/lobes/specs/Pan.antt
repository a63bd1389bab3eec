-- The gain of a voice's note-opened component on one side: its expression times the balance of its
-- pan. "The squares of the two pan balances add to 2 within 2^-14." The Rust's
-- `expression_channel_gain`: unity at the centre, 0 on the far side, else a constant-power law.
-- Assumes nothing.
use Rattle.std.specs.Prelude.{cond, Float}
use Rattle.std.specs.Float.{binary32}
use Rattle.std.specs.Float.Ieee.{of_bits, add, mul, eq}
use Rattle.float32.specs.Constants.{frac_pi_4, sqrt_2}
use Rattle.float32.specs.Order.{clamp, finite}
use Rattle.float32.specs.Remainder.{zero, one}
use Rattle.sine.specs.Sine.{sin_of, cos_of}
use Rattle.scene.specs.declared.MaskVoice.{MaskVoice}
use Rattle.lobes.specs.declared.pan.Side as enum
use Rattle.lobes.specs.declared.pan.Side.TheVariants.{Mono, Left, Right}

-- which mask is built: mono, or one side of a stereo pair
abbrev pub Side : Type 0
Side = enum.Side

abbrev pub mono : Side
mono = Mono

abbrev pub left : Side
left = Left

abbrev pub right : Side
right = Right

abbrev pub hard_left : Float
hard_left = of_bits binary32 0xbf80_0000

abbrev pub hard_right : Float
hard_right = one

abbrev pub max_expression_gain : Float
max_expression_gain = of_bits binary32 0x4080_0000

-- (pan + 1)·π/4
abbrev pub pan_angle : Float → Float
pan_angle pan = mul binary32 (add binary32 pan one) frac_pi_4

abbrev pub left_balance : Float → Float
left_balance pan = cond (eq pan hard_right) zero (mul binary32 (cos_of (pan_angle pan)) sqrt_2)

abbrev pub right_balance : Float → Float
right_balance pan = cond (eq pan hard_left) zero (mul binary32 (sin_of (pan_angle pan)) sqrt_2)

abbrev pub sided : Side → Float → Float
sided Mono pan = one
sided Left pan = left_balance pan
sided Right pan = right_balance pan

-- the balance of a pan in -1..1
unfoldable pub balance : Side → Float → Float
balance side pan = cond (eq pan zero) one (sided side pan)

-- the pan and the expression of a voice, clamped; what is not finite counts as the centre and as 1
abbrev pub pan_of : MaskVoice → Float
pan_of voice = cond (finite voice.pan) (clamp hard_left hard_right voice.pan) zero

abbrev pub expression_of : MaskVoice → Float
expression_of voice = cond (finite voice.expression_gain) (clamp zero max_expression_gain voice.expression_gain) one

unfoldable pub channel_gain : Side → MaskVoice → Float
channel_gain side voice = mul binary32 (expression_of voice) (balance side (pan_of voice))
