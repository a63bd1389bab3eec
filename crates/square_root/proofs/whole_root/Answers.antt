-- `whole_root` meets its contract. The loop's invariant: the digits found so far are those of the
-- root from the place k up. Assumes nothing.
use mathlib.Core.Path.{◌≡◌, subst}
use Prim.Native.Nat.{ℕ}
use native.Mathlib.Omega.{arith}
use Rattle.square_root.proofs.WholeRoot.{DigitsFrom, no-digits, all_digits, tried-small, tried-square-small, digit_set, digit_clear}
use Rattle.square_root.proofs.whole_root.Goals.{After-loop-k}
use Rattle.square_root.proofs.whole_root.Goals as goal

pub loop-k-init : goal.loop-k-init
loop-k-init c = no-digits c.args.n c.requires

pub overflow_cast-t : goal.overflow_cast-t
overflow_cast-t c = omega (arith, c.loop-k.invariant.few)

pub overflow_shl-t : goal.overflow_shl-t
overflow_shl-t c = omega (arith, c.loop-k.invariant.few)

pub overflow_add-t : goal.overflow_add-t
overflow_add-t c = record { fits = omega (arith, tried-small c.loop-k.k c.args.n c.loop-k.r c.requires c.loop-k-test.true c.loop-k.invariant) }

pub overflow_mul-t : goal.overflow_mul-t
overflow_mul-t c = record { fits = omega (arith, tried-square-small c.loop-k.k c.args.n c.loop-k.r c.requires c.loop-k-test.true c.loop-k.invariant) }

pub loop-k-preserved-then-t-n : goal.loop-k-preserved-then-t-n
loop-k-preserved-then-t-n c = let b = c.before in digit_set b.loop-k.k b.args.n b.loop-k.r b.requires b.loop-k-test.true b.loop-k.invariant c.if-t-n.true

pub loop-k-preserved : goal.loop-k-preserved
loop-k-preserved c = let b = c.before in digit_clear b.loop-k.k b.args.n b.loop-k.r b.requires b.loop-k-test.true b.loop-k.invariant c.if-t-n.false

none : (c : After-loop-k) → c.loop-k.k ≡ 0
none c = omega arith

pub returns : goal.returns
returns c = all_digits c.args.n c.loop-k.r (subst (λ (k : ℕ). DigitsFrom k c.args.n c.loop-k.r) (none c) c.loop-k.invariant)
