-- `request` meets its contract: the strip's number is tested first. Assumes nothing.
use native.Mathlib.Omega.{arith}
use borrow.Author.Tests.{le-leb, lt-leb}
use Rattle.mixer.specs.Mixers.{strip_count}
use Rattle.mixer.proofs.request.Goals as goal

pub returns-then-strip-ge-STRIPS : goal.returns-then-strip-ge-STRIPS
returns-then-strip-ge-STRIPS c =
    let above = le-leb strip_count c.args.strip (omega (arith, c.if-strip-ge-STRIPS.true)) in
    record { outcome_value = simp (c.into.ensures, above); mixer_value = simp above }

pub returns : goal.returns
returns c =
    let below = lt-leb strip_count c.args.strip (omega (arith, c.if-strip-ge-STRIPS.false)) in
    record { outcome_value = simp below; mixer_value = simp (below, c.with_request.ensures) }
