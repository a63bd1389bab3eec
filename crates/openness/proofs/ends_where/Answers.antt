-- `ends_where` finds the ends of the blocks where they are asked for. Assumes nothing.
use Rattle.std.specs.Prelude.{None}
use mathlib.Core.Path.{◌≡◌, sym, ◌∙◌}
use borrow.Author.Rules.{rules}
use mathlib.Core.Bool.{true≢false}
use native.Mathlib.Omega.{arith}
use lib.ListN.{get_or}
use lib.Ieee.{nan, binary32}
use Rattle.float_laws.specs.Units.{real-number}
use Rattle.lobes.specs.Distance.{IfLent}
use Rattle.openness.proofs.ends_where.Goals as goal

pub block_ends-requires : goal.block_ends-requires
unfolding IfLent
block_ends-requires c =
    let e = c.if-compact.true in
    let long = rw c.in-Some.is at c.requires.long in
    let real = rw c.in-Some.is at c.requires.table-real in
    (c.requires.row-64, c.requires.lows-128 ∙ sym c.requires.highs-128, omega (arith, c.requires.lows-128, long e), λ i p q l. real-number binary32 (get_or c.in-Some.table.now i nan) (real e i p l))

pub returns-in-Some : goal.returns-in-Some
unfolding IfLent
returns-in-Some c = rw c.in-Some.is (λ e. c.block_ends.ensures)

pub returns-else-compact : goal.returns-else-compact
unfolding IfLent
returns-else-compact c = rw c.in-Some.is (λ e. absurd (true≢false (sym e ∙ c.if-compact.false)))

pub returns : goal.returns
unfolding IfLent
returns c =
    let e : c.args.table ≡ None = search rules in
    rw e tt
