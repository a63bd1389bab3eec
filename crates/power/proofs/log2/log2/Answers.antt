-- `log2` meets its contract: a v that passes both tests is positive and normal, and of any other
-- the logarithm is 0 (proofs/LogMade.antt). Assumes nothing.
use Prim.Native.Nat.{ℕ, ◌^◌, ◌≤◌, ◌<◌}
use native.Mathlib.Omega.{arith}
use lib.Dec.{T}
use Rattle.power.specs.Log.{positive_normal}
use Rattle.power.proofs.LogParts.{digits_in}
use Rattle.power.proofs.Search.{Step, step_is}
use Rattle.power.proofs.LogMade.{log-low, log-high, normal-tests}
use Rattle.power.proofs.log2.log2.Goals.{After-digits-t, After-step_of-h, Else-not-v-2}
use Rattle.power.proofs.log2.log2.Given.{Over}
use Rattle.power.proofs.log2.log2.Goals as goal

pub returns-then-not-v : goal.returns-then-not-v
returns-then-not-v g c = log-low c.args.v c.if-not-v.true-raw

pub returns-then-not-v-2 : goal.returns-then-not-v-2
returns-then-not-v-2 g c = log-high c.args.v c.if-not-v-2.true-raw

normal : (g : Over) (c : Else-not-v-2 g) → T (positive_normal c.args.v)
normal g c = normal-tests c.args.v c.if-not-v.false-raw c.if-not-v-2.false-raw

pub digits-t-requires : goal.digits-t-requires
digits-t-requires g c = normal g c

-- the digits of v lie from 2 ^ 30 to below 2 ^ 31
module _ (g : Over) (c : After-digits-t g) where
  abbrev t : ℕ
  t = c.digits-t.result

  from : 2 ^ 30 ≤ t
  from = rw c.digits-t.ensures (digits_in c.args.v).0

  below : t < 2 ^ 31
  below = rw c.digits-t.ensures (digits_in c.args.v).1

stepped : (g : Over) (c : After-step_of-h g) → Step (t g c.before) c.step_of-h.result
stepped g c = step_is (t g c.before) c.step_of-h.result (from g c.before) (below g c.before) c.step_of-h.ensures

pub step_of-h-requires : goal.step_of-h-requires
step_of-h-requires g c = (from g c, below g c)

pub entry-a-requires : goal.entry-a-requires
entry-a-requires g c = let l = (stepped g c).within in omega arith

pub entry-b-requires : goal.entry-b-requires
entry-b-requires g c = let l = (stepped g c.before).within in omega arith

pub log_in_step-requires : goal.log_in_step-requires
log_in_step-requires g c =
    let s = c.before.before in
    let d = s.before in
    (normal g d.before, d.digits-t.ensures, record { step = s.step_of-h.ensures; from = c.entry-a.ensures; to = c.entry-b.ensures })
