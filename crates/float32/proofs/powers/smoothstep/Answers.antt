-- `smoothstep` is its definition, step by step. Assumes nothing.
use Rattle.std.proofs.Common.{refl}
use Rattle.float32.specs.Smoothstep.{smoothstep}
use Rattle.float32.proofs.powers.smoothstep.Goals as goal

pub returns : goal.returns
unfolding smoothstep
returns c = refl
