-- `blend` is the definition's clamp, of what `exp` ensures. Assumes nothing.
use mathlib.Core.Path.{ap, ◌∙◌}
use lib.Ieee.{Float, binary32, sub}
use Rattle.float32.specs.Order.{clamp}
use Rattle.smoothing.specs.Smoothing.{ZERO, ONE}
use Rattle.smoothing.proofs.blend.Goals as goal

pub returns : goal.returns
returns c = c.clamp.ensures ∙ ap (λ (e : Float). clamp ZERO ONE (sub binary32 ONE e)) c.exp-way.ensures
