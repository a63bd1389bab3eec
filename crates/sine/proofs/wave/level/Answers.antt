-- `sine::wave::level` meets its contract: w is at most 2 ^ 24, so it fits with either sign, which
-- zero does not keep. Assumes nothing.
use mathlib.Core.Path.{◌≡◌, sym, ap, ◌∙◌, subst}
use mathlib.Core.Bool.{Bool}
use Prim.Native.Nat.{ℕ}
use lib.Dec.{T, ltb}
use lib.IntN.{ℤ}
use lib.Ieee.{binary32, div, of_int, of_bits, in_float}
use mir.Syntax.{w32}
use mir.Val.{to_z, of_z, SFits}
use mir.Facts.{to_z-of_z}
use Rattle.sine.specs.Sine.{q}
use Rattle.sine.proofs.Signed.{with_sign, sign_fits, sign-in-float, signed-fraction}
use Rattle.sine.proofs.wave.level.Goals.{After-row_known-1}
use Rattle.sine.proofs.wave.level.Goals as goal

module _ (c : After-row_known-1) where
  abbrev negative : Bool
  negative = ltb 1 (q c.args.place)

  abbrev w : ℕ
  w = c.args.w

  read : to_z w32 (of_z w32 c.signed.result) ≡ with_sign negative w
  read =
      let e = c.signed.ensures in
      to_z-of_z (subst (SFits w32) (sym e) (sign_fits negative w c.requires)) ∙ e

pub int_to_float-result : goal.int_to_float-result
int_to_float-result c = subst (λ (z : ℤ). T (in_float binary32 z)) (sym (read c)) (sign-in-float (negative c) (w c) c.requires)

pub returns : goal.returns
returns c =
    ap (λ (z : ℤ). div binary32 (of_int binary32 z) (of_bits binary32 1266679808)) (read c)
    ∙ signed-fraction (negative c) (w c) c.requires
