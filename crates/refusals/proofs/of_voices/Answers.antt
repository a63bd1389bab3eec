-- `of_voices` meets its contract, test by test. Assumes nothing.
use mathlib.Core.Path.{refl, ap, ◌∙◌}
use native.Mathlib.Nat.{le_refl}
use borrow.Author.Tests.{lt-ltb, le-ltb}
use Rattle.answer.specs.Reply.{of_refusal}
use Rattle.answer.proofs.Tests.{found, none_found}
use Rattle.refusals.specs.Masks.{voices_reply}
use Rattle.refusals.proofs.of_voices.Goals as goal

pub returns-then-count-gt-MOST_VOICES : goal.returns-then-count-gt-MOST_VOICES
unfolding voices_reply
returns-then-count-gt-MOST_VOICES c = ap of_refusal c.into.ensures ∙ rw (lt-ltb 128 _ c.if-count-gt-MOST_VOICES.true) refl

pub returns-then-not-lengths : goal.returns-then-not-lengths
unfolding voices_reply
returns-then-not-lengths c =
    ap of_refusal c.into-then-not-lengths.ensures
    ∙ simp (le-ltb 128 _ c.if-count-gt-MOST_VOICES.false, c.if-not-lengths.true-raw)

pub returns-in-Some : goal.returns-in-Some
unfolding voices_reply
returns-in-Some c =
    ap of_refusal c.at.ensures
    ∙ simp (le-ltb 128 _ c.if-count-gt-MOST_VOICES.false, c.if-not-lengths.false-raw) (found 5 _ c.in-Some.ensures.0 c.in-Some.ensures.1)

pub returns : goal.returns
unfolding voices_reply
returns c =
    simp (le-ltb 128 _ c.if-count-gt-MOST_VOICES.false, c.if-not-lengths.false-raw) (none_found _ _ c.in_default.ensures (le_refl _) refl)
