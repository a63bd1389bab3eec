-- `clipped` chooses by what `is_between` ensures. Assumes nothing.
use mathlib.Core.Path.{sym, ◌∙◌}
use lib.Ieee.{of_bits}
use Rattle.power_rows.proofs.exp2.clipped.Goals as goal

pub returns-then-is_between : goal.returns-then-is_between
returns-then-is_between c = let e = sym c.is_between.ensures ∙ c.if-is_between.true in rw e

pub returns : goal.returns
unfolding of_bits
returns c = let e = sym c.is_between.ensures ∙ c.if-is_between.false in rw e
