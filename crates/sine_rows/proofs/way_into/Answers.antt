-- `way_into` decides by the low bit of the quarter. Assumes nothing.
use borrow.Author.Tests.{eq-eqb, ne_eqb}
use Rattle.sine_rows.proofs.way_into.Goals as goal

pub returns-then-odd-eq1 : goal.returns-then-odd-eq1
returns-then-odd-eq1 c = rw (eq-eqb c.args.odd 1 c.if-odd-eq1.true)

pub returns : goal.returns
returns c = rw (ne_eqb c.args.odd 1 c.if-odd-eq1.false)
