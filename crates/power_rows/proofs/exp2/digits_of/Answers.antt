-- `digits_of` is what `interpolate` ensures of the 24 low bits, without its 7 last bits. Assumes
-- nothing.
use mathlib.Core.Path.{ap, ◌∙◌}
use Prim.Native.Nat.{ℕ, ◌/◌}
use native.Mathlib.Omega.{arith}
use lib.Bits.{bit_and, and_mask, mask_lt}
use Rattle.power.specs.Table.{I}
use Rattle.power.proofs.Rules.{P-rule}
use Rattle.power.proofs.Interpolated.{interp-high}
use Rattle.power_rows.proofs.exp2.digits_of.Goals as goal

pub overflow_cast-y : goal.overflow_cast-y
overflow_cast-y c = let m = mask_lt c.args.y 24 in omega arith

pub interpolate-requires : goal.interpolate-requires
interpolate-requires c = mask_lt c.args.y 24

pub overflow_cast-result : goal.overflow_cast-result
overflow_cast-result c = let h = interp-high P-rule (bit_and c.args.y 16777215) (mask_lt c.args.y 24) in omega (arith, c.interpolate.ensures)

pub returns : goal.returns
returns c = ap (λ (z : ℕ). z / 128) (c.interpolate.ensures ∙ ap I (and_mask c.args.y 24))
