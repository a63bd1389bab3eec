-- `hertz` meets its contract, by its test. Assumes nothing.
use borrow.Author.Tests.{ne_eqb}
use Rattle.float32.proofs.Sums.{in-float}
use Rattle.frequencies.specs.Frequency.{hertz_or_zero}
use Rattle.frequencies.proofs.hertz.Goals as goal

pub returns-then-bin-eq0 : goal.returns-then-bin-eq0
unfolding hertz_or_zero
returns-then-bin-eq0 c = simp c.if-bin-eq0.true

pub int_to_float-result : goal.int_to_float-result
int_to_float-result c = in-float _ c.requires

pub returns : goal.returns
unfolding hertz_or_zero
returns c = simp (ne_eqb c.args.bin 0 c.if-bin-eq0.false)
