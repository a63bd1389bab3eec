-- `powi5` meets its contract: the products are the definition's, in its order. Assumes nothing.
use Rattle.std.proofs.Common.{refl}
use Rattle.float32.proofs.powers.powi5.Goals as goal

pub returns : goal.returns
returns c = refl
