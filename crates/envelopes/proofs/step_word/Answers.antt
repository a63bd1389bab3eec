-- `envelopes::step_word` meets its contract: the notes of the high half of the word make their
-- step, then those of the low half, which the first step left as they were. Assumes nothing.
use mathlib.Core.Path.{◌≡◌, sym, ap, subst, ◌∙◌}
use mathlib.Core.List.{List}
use Prim.Native.Nat.{ℕ, ◌+◌, ◌*◌, ◌/◌, ◌%◌, ◌^◌}
use native.Mathlib.Omega.{arith}
use lib.Bits.{and_mask, mask_lt}
use lib.ListN.{length}
use lib.Ieee.{Float}
use Rattle.lists.specs.Maps.{map_range, length-map_range}
use Rattle.envelopes.specs.Envelope.{Accepted}
use Rattle.envelopes.proofs.Steps.{still-accepted, by-half, by-halves}
use Rattle.envelopes.proofs.step_word.Goals as goal

-- the two halves stand at twice the word's place and one after it
at_first : (index : ℕ) → 32 * (2 * index) ≡ 64 * index
at_first index = omega arith

at_second : (index : ℕ) → 32 * (2 * index + 1) ≡ 64 * index + 32
at_second index = omega arith

after-second : (index : ℕ) → 64 * index + 32 + 32 ≡ 64 * index + 64
after-second index = omega arith

pub step_half-requires : goal.step_half-requires
step_half-requires c =
    let p = c.requires in
    let l = p.1 in
    (p.0, omega arith, p.2, λ note a b. p.3 note (omega arith) (omega arith))

pub overflow_cast-word-2 : goal.overflow_cast-word-2
overflow_cast-word-2 c = record { fits = mask_lt c.args.word 32 }

pub step_half-requires-2 : goal.step_half-requires-2
step_half-requires-2 c =
    let p = c.requires in
    let l = p.1 in
    let i = c.args.index in
    let levels = c.args.levels.now in
    let e = c.step_half.ensures in
    let kept = still-accepted _ levels (32 * (2 * i)) (32 * (2 * i) + 32) (64 * i + 64) (omega (arith, p.0)) (λ note a b. p.3 note (omega arith) b) in
    let rest = subst (λ (xs : List Float). Accepted xs (32 * (2 * i) + 32) (64 * i + 64)) (sym e) kept in
    (ap length e ∙ length-map_range _ (32 * (2 * i)) (32 * (2 * i) + 32) levels ∙ p.0, omega arith, p.2, λ note a b. rest note (omega arith) (omega arith))

pub returns : goal.returns
returns c =
    let a = c.args in
    let i = a.index in
    let levels = a.levels.now in
    let after = c.step_half.new.levels in
    let step : ℕ → ℕ → ℕ → List Float → List Float = λ half lo hi xs. map_range (by-half a.alpha a.word i half) lo hi xs in
    by-halves a.alpha a.word i levels after
    (c.step_half.ensures ∙ ap (λ (k : ℕ). step (a.word / 2 ^ 32) k (k + 32) levels) (at_first i))
    (c.step_half-2.ensures
    ∙ ap (λ (half : ℕ). step half (32 * (2 * i + 1)) (32 * (2 * i + 1) + 32) after) (and_mask a.word 32)
    ∙ ap (λ (k : ℕ). step (a.word % 2 ^ 32) k (k + 32) after) (at_second i)
    ∙ ap (λ (k : ℕ). step (a.word % 2 ^ 32) (64 * i + 32) k after) (after-second i))
