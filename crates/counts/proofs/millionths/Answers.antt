-- `millionths` meets its contract: by the exponent, the digits are all dropped, shifted right, or
-- left, or the answer is the most. Assumes nothing.
use mathlib.Core.Path.{sym, ◌∙◌, subst}
use mathlib.Core.Bool.{Bool, false}
use Prim.Native.Nat.{ℕ}
use lib.Ieee.{Float}
use Rattle.float32.specs.Value.{Decoded}
use Rattle.float32.proofs.Patterns.{tested-nan, tested-number}
use Rattle.counts.proofs.InMillionths.{millionths-nan, millionths-negative, millionths-none, millionths-low, millionths-high, millionths-top}
use Rattle.counts.proofs.millionths.Goals.{Else-neg}
use Rattle.counts.proofs.millionths.Goals as goal

module _ (c : Else-neg) where
  abbrev x : Float
  x = c.args.x

  abbrev mant : ℕ
  mant = c.decode-d.result.mant

  abbrev expo : ℕ
  expo = c.decode-d.result.expo

  decoded : Decoded x false mant expo
  decoded = subst (λ (s : Bool). Decoded x s mant expo) c.if-neg.false c.decode-d.ensures

pub returns-then-x : goal.returns-then-x
returns-then-x c = sym (rw (tested-nan c.args.x c.if-x.true) millionths-nan)

pub decode-d-requires : goal.decode-d-requires
decode-d-requires c = tested-number c.args.x c.if-x.false

pub returns-then-neg : goal.returns-then-neg
returns-then-neg c = let d = c.before.before in sym (millionths-negative d.args.x (d.decode-d.ensures.sign ∙ c.if-neg.true))

pub returns-then-expo-lt105 : goal.returns-then-expo-lt105
returns-then-expo-lt105 c = let b = c.before in sym (millionths-none (x b) (mant b) (expo b) (decoded b) c.if-expo-lt105.true)

pub returns-then-expo-lt149 : goal.returns-then-expo-lt149
returns-then-expo-lt149 c = let b = c.before.before in sym (millionths-low (x b) (mant b) (expo b) (decoded b) c.if-expo-lt149.true)

pub returns-then-expo-lt170 : goal.returns-then-expo-lt170
returns-then-expo-lt170 c = let b = c.before.before.before in millionths-high (x b) (mant b) (expo b) (decoded b) c.if-expo-lt149.false c.if-expo-lt170.true

pub returns : goal.returns
returns c = let b = c.before.before.before in sym (millionths-top (x b) (mant b) (expo b) (decoded b) c.if-expo-lt170.false)
