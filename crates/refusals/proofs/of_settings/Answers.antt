-- `of_settings` meets its contract, test by test. Assumes nothing.
use mathlib.Core.Path.{refl, ap, ◌∙◌}
use Rattle.answer.specs.Reply.{of_refusal}
use Rattle.refusals.specs.Masks.{settings_reply}
use Rattle.answer.proofs.Tests.{fails, passes}
use Rattle.refusals.proofs.of_settings.Goals as goal

pub returns-then-not-size_accepted : goal.returns-then-not-size_accepted
unfolding settings_reply
returns-then-not-size_accepted c = ap of_refusal c.into.ensures ∙ fails _ _ c.size_accepted.ensures c.if-not-size_accepted.true-raw

pub returns-then-not-settings_accepted : goal.returns-then-not-settings_accepted
unfolding settings_reply
returns-then-not-settings_accepted c =
    ap of_refusal c.into-then-not-settings_accepted.ensures
    ∙ passes _ _ c.size_accepted.ensures c.if-not-size_accepted.false-raw (fails _ _ c.settings_accepted.ensures c.if-not-settings_accepted.true-raw)

pub returns : goal.returns
unfolding settings_reply
returns c =
    passes _ _ c.size_accepted.ensures c.if-not-size_accepted.false-raw (passes _ _ c.settings_accepted.ensures c.if-not-settings_accepted.false-raw refl)
