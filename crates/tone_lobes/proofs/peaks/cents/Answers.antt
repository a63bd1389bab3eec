-- `lobes::peaks::cents` meets its contract. Assumes nothing.
use mathlib.Core.Path.{◌∙◌}
use Rattle.float32.proofs.Sums.{in-float}
use Rattle.lobes.specs.Peak.{cents}
use Rattle.tone_lobes.proofs.peaks.cents.Goals as goal

pub int_to_float-bin : goal.int_to_float-bin
int_to_float-bin c = in-float _ c.requires

pub returns : goal.returns
unfolding cents
returns c = c.abs.ensures ∙ simp c.log2-octaves.ensures
