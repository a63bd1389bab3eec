-- `digits` meets its contract: proofs/LogParts.antt has the digits of v. Assumes nothing.
use Rattle.power.proofs.LogParts.{no_nan, shifted-digits}
use Rattle.power.proofs.log2.digits.Goals as goal

pub float_to_bits-result : goal.float_to_bits-result
float_to_bits-result c = no_nan c.args.v c.requires

pub returns : goal.returns
returns c = shifted-digits c.args.v
