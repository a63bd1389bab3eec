-- `ready` meets its contract: a v that passes both tests is positive and normal, and no other is
-- (proofs/LogMade.antt). Assumes nothing.
use mathlib.Core.Path.{refl}
use lib.Ieee.Bits.{is_true}
use Rattle.power.specs.Log.{positive_normal}
use Rattle.power.proofs.LogMade.{too-low, too-high, normal-tests}
use Rattle.power_rows.proofs.log2.ready.Goals as goal

pub returns-then-not-v : goal.returns-then-not-v
returns-then-not-v c = rw (too-low c.args.v c.if-not-v.true-raw) refl

pub returns-then-not-v-2 : goal.returns-then-not-v-2
returns-then-not-v-2 c = rw (too-high c.args.v c.if-not-v-2.true-raw) refl

pub returns : goal.returns
returns c = let v = c.args.v in rw (is_true (positive_normal v) (normal-tests v c.if-not-v.false-raw c.if-not-v-2.false-raw)) refl
