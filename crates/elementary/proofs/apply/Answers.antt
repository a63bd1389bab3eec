-- `elementary::apply` meets its contract: each arm does what the function names over the whole
-- list. Assumes nothing.
use mathlib.Core.Path.{◌≡◌, ◌∙◌}
use mathlib.Core.List.{List}
use Prim.Native.Nat.{ℕ}
use native.Mathlib.Omega.{arith}
use lib.ListN.{length}
use lib.Ieee.{Float}
use Rattle.lists.specs.Maps.{map_at, map_range, between, between_in}
use Rattle.lists.specs.Runs.{map_same}
use Rattle.power.specs.Power.{E2}
use Rattle.power.specs.Log.{L2}
use Rattle.power.specs.Decimal.{pow10, exp, log10}
use Rattle.sine.specs.Sine.{sin_of, cos_of}
use Rattle.elementary.proofs.apply.Goals as goal

-- a row of all entries
whole : (g : ℕ → Float → Float) (xs : List Float) → map_range g 0 (length xs) xs ≡ map_at g xs
whole g xs = map_same (between 0 (length xs) g) g xs (λ k x h. between_in g 0 (length xs) k x (omega arith) h)

pub returns-in-Exp2 : goal.returns-in-Exp2
returns-in-Exp2 c =
    rw c.in-Exp2.is (c.exp2_row.ensures ∙ whole (λ k x. E2 x) _)

pub returns-in-Log2 : goal.returns-in-Log2
returns-in-Log2 c =
    rw c.in-Log2.is (c.log2_row.ensures ∙ whole (λ k v. L2 v) _)

pub returns-in-Sin : goal.returns-in-Sin
returns-in-Sin c =
    rw c.in-Sin.is (c.sin_row.ensures ∙ whole (λ k x. sin_of x) _)

pub returns-in-Cos : goal.returns-in-Cos
returns-in-Cos c =
    rw c.in-Cos.is (c.cos_row.ensures ∙ whole (λ k x. cos_of x) _)

pub returns-in-Pow10 : goal.returns-in-Pow10
returns-in-Pow10 c =
    rw c.in-Pow10.is (c.pow10_row.ensures ∙ whole (λ k x. pow10 x) _)

pub returns-in-Exp : goal.returns-in-Exp
returns-in-Exp c =
    rw c.in-Exp.is (c.exp_row.ensures ∙ whole (λ k x. exp x) _)

pub returns-in-Log10 : goal.returns-in-Log10
returns-in-Log10 c =
    rw c.in-Log10.is (c.log10_row.ensures ∙ whole (λ k v. log10 v) _)

pub returns-in_default : goal.returns-in_default
returns-in_default c = c.apply_one_by_one.ensures
