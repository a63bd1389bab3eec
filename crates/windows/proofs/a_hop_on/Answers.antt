-- `a_hop_on` is the remainder: a number below the size is its own remainder, and for one from the
-- size up and below twice the size it is less by the size. Assumes nothing.
use mathlib.Core.Path.{sym, ◌∙◌}
use native.Mathlib.Nat.{mod-eq_of_lt, mod-eq-sub-mod}
use native.Mathlib.Omega.{arith}
use Rattle.windows.proofs.a_hop_on.Goals as goal

pub returns-then-next-size : goal.returns-then-next-size
returns-then-next-size c = (omega arith, sym (mod-eq_of_lt (omega arith)))

pub returns-else-next-size : goal.returns-else-next-size
returns-else-next-size c = (omega arith, sym (mod-eq-sub-mod (omega arith) ∙ mod-eq_of_lt (omega arith)))
