-- `advance_bank` meets its contract, test by test; then each level makes its step in the slice.
-- Assumes nothing.
use mathlib.Core.Path.{refl, ap, subst, ◌∙◌}
use Prim.Native.Nat.{ℕ, ◌≤◌}
use borrow.Author.Tests.{eq-eqb, ne_eqb}
use native.Mathlib.Nat.{le_refl}
use lib.ListN.{length}
use Rattle.answer.specs.Reply.{of_refusal}
use lib.Ieee.{Float}
use Rattle.lists.specs.Maps.{map_at}
use Rattle.lists.specs.Folds.{first_bad}
use Rattle.answer.proofs.Tests.{found, none_found}
use Rattle.limits.specs.Limits as limits
use Rattle.limits.proofs.Accepted.{passed}
use Rattle.envelopes.specs.Envelope.{is_held, next_level}
use Rattle.list_calls.specs.Advanced.{bank_reply}
use Rattle.list_calls.proofs.Banks.{none-outside}
use Rattle.list_calls.proofs.advance_bank.Goals as goal

pub returns-then-not-elapsed : goal.returns-then-not-elapsed
unfolding bank_reply
returns-then-not-elapsed c = record { result_value = ap of_refusal c.into.ensures ∙ simp (← c.elapsed.ensures, c.if-not-elapsed.true-raw); levels_after = refl }

pub returns-then-not-fade : goal.returns-then-not-fade
unfolding bank_reply
returns-then-not-fade c =
    record { result_value = ap of_refusal c.into-then-not-fade.ensures ∙ simp (← c.elapsed.ensures, c.if-not-elapsed.false-raw, ← c.fade.ensures, c.if-not-fade.true-raw); levels_after = refl }

pub returns-then-levels-ne-MIDI_NOTES : goal.returns-then-levels-ne-MIDI_NOTES
unfolding bank_reply
returns-then-levels-ne-MIDI_NOTES c =
    record { result_value = ap of_refusal c.into-then-levels-ne-MIDI_NOTES.ensures ∙ simp (← c.elapsed.ensures, c.if-not-elapsed.false-raw, ← c.fade.ensures, c.if-not-fade.false-raw, ne_eqb _ _ c.if-levels-ne-MIDI_NOTES.true); levels_after = refl }

pub returns-then-held-ne-HELD_BYTES : goal.returns-then-held-ne-HELD_BYTES
unfolding bank_reply
returns-then-held-ne-HELD_BYTES c =
    record { result_value = ap of_refusal c.into-then-held-ne-HELD_BYTES.ensures ∙ simp (← c.elapsed.ensures, c.if-not-elapsed.false-raw, ← c.fade.ensures, c.if-not-fade.false-raw, eq-eqb _ _ c.if-levels-ne-MIDI_NOTES.false, ne_eqb _ _ c.if-held-ne-HELD_BYTES.true); levels_after = refl }

pub fade_alpha-alpha-requires : goal.fade_alpha-alpha-requires
fade_alpha-alpha-requires c =
    (passed c.elapsed.ensures c.if-not-elapsed.false-raw, passed c.fade.ensures c.if-not-fade.false-raw)

pub returns-in-Some : goal.returns-in-Some
unfolding bank_reply
returns-in-Some c = record {
  result_value = ap of_refusal c.at.ensures
      ∙ simp (
        ← c.elapsed.ensures,
        c.if-not-elapsed.false-raw,
        ← c.fade.ensures,
        c.if-not-fade.false-raw,
        eq-eqb _ _ c.if-levels-ne-MIDI_NOTES.false,
        eq-eqb _ _ c.if-held-ne-HELD_BYTES.false,
      ) (found 7 _ c.in-Some.ensures.0 c.in-Some.ensures.1);
  levels_after = refl;
}

pub advance-requires : goal.advance-requires
advance-requires c =
    (c.if-levels-ne-MIDI_NOTES.false, c.if-held-ne-HELD_BYTES.false, c.fade_alpha-alpha.ensures.1, none-outside _ 128 (subst (λ (n : ℕ). n ≤ first_bad (λ k level. limits.level level) c.args.levels.now) c.if-levels-ne-MIDI_NOTES.false (subst (λ (n : ℕ). length c.args.levels.now ≤ n) c.in_default.ensures (le_refl _))))

pub returns : goal.returns
unfolding bank_reply
returns c =
    let a = c.args in
    let levels = a.levels.now in record {
      result_value = simp (
        ← c.elapsed.ensures,
        c.if-not-elapsed.false-raw,
        ← c.fade.ensures,
        c.if-not-fade.false-raw,
        eq-eqb _ _ c.if-levels-ne-MIDI_NOTES.false,
        eq-eqb _ _ c.if-held-ne-HELD_BYTES.false,
      ) (none_found _ _ c.in_default.ensures (le_refl _) refl);
      levels_after = c.advance.ensures ∙ ap (λ (x : Float). map_at (λ note level. next_level (is_held a.held.now note) x level) levels) c.fade_alpha-alpha.ensures.0;
    }
