-- The reply for a bank in a slice of its length, with bytes of theirs, is the one for a bank passed
-- by value; and a search that finds no level says of each that it is within its limits.
-- Assumes nothing.
use mathlib.Core.Path.{◌≡◌, ◌∙◌}
use mathlib.Core.List.{List}
use Prim.Native.Nat.{ℕ, ◌≤◌}
use native.Mathlib.Nat.{lt_of_lt_of_le}
use borrow.Author.Tests.{eq-eqb}
use lib.ListN.{length}
use lib.Ieee.{Float, nan}
use Rattle.lists.specs.Folds.{first_bad}
use Rattle.lists.proofs.Folds.{bad-before}
use Rattle.answer.specs.Reply.{of_outcome}
use Rattle.std.specs.Prelude.{Result}
use Rattle.answer.specs.declared.Refusal.{Refusal}
use Rattle.answer.specs.Written.{written}
use Rattle.limits.specs.Limits as limits
use Rattle.envelopes.specs.Envelope.{Accepted, advanced}
use Rattle.list_calls.specs.Advanced.{of_envelopes, advance_reply, advance_of, bank_reply}

pub none-outside : (levels : List Float) (last : ℕ) → last ≤ first_bad (λ n level. limits.level level) levels → Accepted levels 0 last
none-outside levels last h note a b = bad-before nan (λ n level. limits.level level) levels note (lt_of_lt_of_le b h)

pub same-reply : (levels : List Float) (held : List ℕ) (elapsed fade : Float) → length levels ≡ 128 → length held ≡ 16 → bank_reply levels held elapsed fade ≡ advance_reply levels elapsed fade
unfolding bank_reply
same-reply levels held elapsed fade l h =
    simp (eq-eqb (length levels) 128 l, eq-eqb (length held) 16 h)

-- what the call on the slice gives is what the call by value is to give
pub by_value : (levels bank : List Float) (held : List ℕ) (elapsed fade : Float) (outcome : Result (Unit {0}) Refusal) → length levels ≡ 128 → length held ≡ 16
    → of_outcome outcome ≡ bank_reply levels held elapsed fade → bank ≡ written (of_outcome outcome) (advanced held elapsed fade levels) levels
    → of_envelopes (record { outcome = outcome; levels = bank }) ≡ advance_of levels held elapsed fade
by_value levels bank held elapsed fade outcome l h e w =
    let reply = e ∙ same-reply levels held elapsed fade l h in
    simp (w, reply)
