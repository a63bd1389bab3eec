-- `few_powers` is its four stages, one after the other. Assumes nothing.
use Prim.Native.Nat.{◌≤◌}
use native.Mathlib.Omega.{arith}
use lib.ListN.{length}
use Rattle.power_rows.proofs.Exp2Staged.{inside-between, found_at}
use Rattle.power_rows.proofs.exp2.few_powers.Goals.{Start}
use Rattle.power_rows.proofs.exp2.few_powers.Goals as goal

-- the lent buffers have room
rooms : (s : Start) → (s.args.count ≤ length s.args.inside.now) × (s.args.count ≤ length s.args.found.now) × (s.args.count ≤ length s.args.values.now)
rooms s = (s.requires.1, s.requires.2, s.requires.3)

pub steps-requires : goal.steps-requires
steps-requires c =
    (omega (arith, c.requires.1, c.clip.auto.inside), c.requires.2, inside-between c.args.start c.args.count c.args.row.now c.args.inside.now c.args.found.now c.args.values.now (rooms c.before.before.before.before.before.before.before.before.before.before) c.clip.ensures)

pub finish-requires : goal.finish-requires
finish-requires c = (
  c.requires.0,
  omega (arith, c.requires.2, c.steps.auto.found),
  omega (arith, c.requires.3, c.leading.auto.values),
  found_at c.args.start c.args.count c.args.row.now c.args.inside.now c.args.found.now c.args.values.now (rooms c.before.before.before.before.before.before.before.before.before.before.before.before.before.before.before.before.before) c.clip.ensures c.steps.ensures c.leading.ensures,
)
