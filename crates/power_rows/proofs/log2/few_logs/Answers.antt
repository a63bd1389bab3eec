-- `few_logs` is its four stages, one after the other: what the first leaves has logarithms, and the
-- others find the steps of those (proofs/Ready.antt). Assumes nothing.
use mathlib.Core.Path.{ap, ◌∙◌}
use mathlib.Core.List.{List}
use Prim.Native.Nat.{ℕ, ◌+◌, ◌<◌}
use native.Mathlib.Omega.{arith}
use lib.Dec.{T}
use lib.ListN.{get_or}
use lib.Ieee.{Float, nan}
use Rattle.lists.specs.Maps.{map_range}
use Rattle.power.specs.Log.{positive_normal, L2}
use Rattle.power_rows.proofs.Ready.{ready_at, scaled_at, found_at, logs-staged}
use Rattle.power_rows.proofs.log2.few_logs.Goals as goal

pub take_digits-requires : goal.take_digits-requires
take_digits-requires c =
    let normal : (k : ℕ) → k < c.args.count → T (positive_normal (get_or c.make_ready.new.row (c.args.start + k) nan)) = λ k l. ready_at c.args.start (c.args.start + c.args.count) c.args.row.now _ c.requires.0 c.make_ready.ensures _ (omega arith) (omega arith) in
    (c.requires.1.in-digits, omega (arith, c.requires.0, c.make_ready.auto.row), normal)

pub find_steps-requires : goal.find_steps-requires
find_steps-requires c =
    let normal : (k : ℕ) → k < c.args.count → T (positive_normal (get_or c.make_ready.new.row (c.args.start + k) nan)) = λ k l. ready_at c.args.start (c.args.start + c.args.count) c.args.row.now _ c.requires.0 c.make_ready.ensures _ (omega arith) (omega arith) in
    let a = c.args in
    let room = c.requires.1 in (
      record {
        in-digits = omega (arith, room.in-digits, c.take_digits.auto.digits);
        in-steps = room.in-steps;
        in-from = room.in-from;
        in-to = room.in-to;
      },
      scaled_at a.start a.count c.make_ready.new.row a.digits.now a.steps.now a.from.now a.to.now room normal c.take_digits.ensures,
    )

pub take_logs-requires : goal.take_logs-requires
take_logs-requires c =
    let normal : (k : ℕ) → k < c.args.count → T (positive_normal (get_or c.make_ready.new.row (c.args.start + k) nan)) = λ k l. ready_at c.args.start (c.args.start + c.args.count) c.args.row.now _ c.requires.0 c.make_ready.ensures _ (omega arith) (omega arith) in
    let a = c.args in
    let room = c.requires.1 in (
      omega (arith, c.requires.0, c.make_ready.auto.row),
      record {
        in-digits = omega (arith, room.in-digits, c.take_digits.auto.digits);
        in-steps = omega (arith, room.in-steps, c.find_steps.auto.steps);
        in-from = omega (arith, room.in-from, c.find_steps.auto.from);
        in-to = omega (arith, room.in-to, c.find_steps.auto.to);
      },
      found_at a.start a.count c.make_ready.new.row a.digits.now a.steps.now a.from.now a.to.now room normal c.take_digits.ensures
          c.find_steps.ensures.0 c.find_steps.ensures.1 c.find_steps.ensures.2,
    )

pub returns : goal.returns
returns c =
    let a = c.args in
    c.take_logs.ensures
    ∙ ap (λ (xs : List Float). map_range (λ i v. L2 v) a.start (a.start + a.count) xs) c.make_ready.ensures
    ∙ logs-staged a.start (a.start + a.count) a.row.now
