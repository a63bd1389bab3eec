-- `to_count` meets its contract: by the exponent, the digits are shifted right, or left, or the
-- count is the largest. Assumes nothing.
use mathlib.Core.Path.{sym, ap, ◌∙◌, subst}
use mathlib.Core.Bool.{Bool, false}
use Prim.Native.Nat.{ℕ, ◌^◌}
use lib.Ieee.{Float}
use Rattle.float32.specs.Value.{Decoded}
use Rattle.counts.specs.Counts.{whole}
use Rattle.float32.proofs.Patterns.{tested-nan, tested-number}
use Rattle.counts.proofs.Counted.{count-nan, count-negative, count_low, count-high, count-top}
use Rattle.counts.proofs.to_count.Goals.{Else-neg}
use Rattle.counts.proofs.to_count.Goals as goal

module _ (c : Else-neg) where
  abbrev up : Bool
  up = c.args.up

  abbrev x : Float
  x = c.args.x

  abbrev mant : ℕ
  mant = c.decode-d.result.mant

  abbrev expo : ℕ
  expo = c.decode-d.result.expo

  decoded : Decoded x false mant expo
  decoded = subst (λ (s : Bool). Decoded x s mant expo) c.if-neg.false c.decode-d.ensures

pub returns-then-x : goal.returns-then-x
returns-then-x c = sym (rw (tested-nan c.args.x c.if-x.true) (count-nan c.args.up))

pub decode-d-requires : goal.decode-d-requires
decode-d-requires c = tested-number c.args.x c.if-x.false

pub returns-then-neg : goal.returns-then-neg
returns-then-neg c = let d = c.before.before in sym (count-negative d.args.up d.args.x (d.decode-d.ensures.sign ∙ c.if-neg.true))

pub returns-then-expo-lt149 : goal.returns-then-expo-lt149
returns-then-expo-lt149 c = let b = c.before.before.before in c.shifted.ensures ∙ ap (λ (k : ℕ). whole (up b) (mant b) (2 ^ k)) c.capped_shift.ensures ∙ sym (count_low (up b) (x b) (mant b) (expo b) (decoded b) c.if-expo-lt149.true)

pub returns-then-expo-lt190 : goal.returns-then-expo-lt190
returns-then-expo-lt190 c = let b = c.before.before in count-high (up b) (x b) (mant b) (expo b) (decoded b) c.if-expo-lt149.false c.if-expo-lt190.true

pub returns : goal.returns
returns c = let b = c.before.before in count-top (up b) (x b) (mant b) (expo b) (decoded b) c.if-expo-lt190.false
