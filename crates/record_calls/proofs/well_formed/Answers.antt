-- `well_formed` meets its contract, test by test. Assumes nothing.
use native.Mathlib.Omega.{arith}
use lib.ListN.{length}
use Prim.Native.Nat.{ℕ}
use mathlib.Core.Path.{◌≡◌, refl, sym, ap, subst, ◌∙◌}
use Rattle.record_calls.proofs.Reading.{other_length, bits-set, last-test}
use Rattle.record_heads.specs.Heads.{count_of, zero_bits}
use Rattle.record_calls.proofs.well_formed.Goals as goal

pub returns-then-record-lt-RECORD_HEAD : goal.returns-then-record-lt-RECORD_HEAD
returns-then-record-lt-RECORD_HEAD c = other_length _ _ refl (λ e. omega (arith, e, c.if-record-lt-RECORD_HEAD.true))

pub returns-then-record-record_length : goal.returns-then-record-record_length
returns-then-record-record_length c =
    other_length _ _ (c.count_of-count.ensures.0 ∙ ap count_of c.head_at-head.ensures.0)
    (subst (λ (k : ℕ). length c.args.«record».now ≡ k → ⊥)
    c.record_length.ensures c.if-record-record_length.true)

pub returns-then-zero_bits : goal.returns-then-zero_bits
returns-then-zero_bits c =
    c.pitches_allowed.ensures
    ∙ last-test _ _ (c.count_of-count.ensures.0 ∙ ap count_of c.head_at-head.ensures.0)
    (c.if-record-record_length.false ∙ c.record_length.ensures)
    (ap zero_bits (sym c.head_at-head.ensures.0) ∙ sym c.zero_bits.ensures ∙ c.if-zero_bits.true)

pub returns-else-zero_bits : goal.returns-else-zero_bits
returns-else-zero_bits c =
    c.if-zero_bits.false
    ∙ bits-set _ _ (c.count_of-count.ensures.0 ∙ ap count_of c.head_at-head.ensures.0)
    (c.if-record-record_length.false ∙ c.record_length.ensures)
    (ap zero_bits (sym c.head_at-head.ensures.0) ∙ sym c.zero_bits.ensures ∙ c.if-zero_bits.false)
