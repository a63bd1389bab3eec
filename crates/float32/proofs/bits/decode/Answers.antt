-- `float32::bits::decode` meets its contract: an exponent field of 0 has no leading digit, any
-- other has it. Assumes nothing.
use Rattle.std.proofs.Common.{T, sym, subst}
use lib.Ieee.{binary32, fits}
use Rattle.float32.proofs.Fields.{decoded-low, decoded-high}
use Rattle.float32.proofs.bits.decode.Goals.{Start}
use Rattle.float32.proofs.bits.decode.Goals as goal

held : (c : Start) → T (fits binary32 c.args.x)
held c = subst T (sym c.well_formed.0.1) tt

pub float_to_bits-b : goal.float_to_bits-b
float_to_bits-b c = c.requires

pub returns-then-e-eq0 : goal.returns-then-e-eq0
returns-then-e-eq0 c = decoded-low c.args.x (held c.before) c.requires c.if-e-eq0.true

pub returns : goal.returns
returns c = decoded-high c.args.x (held c.before) c.requires c.if-e-eq0.false
