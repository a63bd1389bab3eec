-- `MaskWorkspace::prepare` answers as the chain of its tests says, leaves the table as it was where
-- it refuses, and fills it where it is done. Assumes nothing.
use mathlib.Core.Path.{refl, sym, ap, ◌∙◌}
use native.Mathlib.Omega.{arith}
use Rattle.answer.specs.Reply.{of_refusal}
use Rattle.answer.proofs.Tests.{fails, passes, differ, agree}
use Rattle.limits.proofs.Accepted.{passed, size-at-most}
use Rattle.list_calls.proofs.MaskWorkspace.prepare.Goals as goal

pub returns-then-not-size : goal.returns-then-not-size
returns-then-not-size c = record { result_value = ap of_refusal c.into.ensures ∙ fails _ _ c.size.ensures c.if-not-size.true-raw; table_after = refl }

pub returns-then-not-rate : goal.returns-then-not-rate
returns-then-not-rate c =
    record { result_value = ap of_refusal c.into-then-not-rate.ensures ∙ passes _ _ c.size.ensures c.if-not-size.false-raw (fails _ _ c.rate.ensures c.if-not-rate.true-raw); table_after = refl }

pub returns-then-table-bins : goal.returns-then-table-bins
returns-then-table-bins c =
    let other = differ _ _ (λ e. c.if-table-bins.true (e ∙ sym c.bins.ensures)) in
    record { result_value = ap of_refusal c.into-then-table-bins.ensures ∙ passes _ _ c.size.ensures c.if-not-size.false-raw (passes _ _ c.rate.ensures c.if-not-rate.false-raw other); table_after = refl }

pub fill-requires : goal.fill-requires
fill-requires c =
    let small = size-at-most c.args.fft_size (passed c.size.ensures c.if-not-size.false-raw) in
    (omega arith, omega (arith, c.if-table-bins.false, c.bins.ensures))

pub returns : goal.returns
returns c =
    let same = c.if-table-bins.false ∙ c.bins.ensures in record { result_value = passes _ _ c.size.ensures c.if-not-size.false-raw (passes _ _ c.rate.ensures c.if-not-rate.false-raw (agree _ _ same refl)); table_after = c.fill.ensures }
