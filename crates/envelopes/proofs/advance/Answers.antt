-- `envelopes::advance` meets its contract: both words' notes make their step, which is what is held
-- of each. Assumes nothing.
use mathlib.Core.Path.{sym, ap, subst, ◌∙◌}
use mathlib.Core.List.{List}
use Prim.Native.Nat.{ℕ}
use native.Mathlib.Omega.{arith}
use lib.ListN.{length}
use lib.Ieee.{Float}
use Rattle.lists.specs.Maps.{map_range, length-map_range}
use Rattle.envelopes.specs.Envelope.{Accepted}
use Rattle.envelopes.proofs.Steps.{still-accepted, by_word, by-words}
use Rattle.envelopes.proofs.advance.Goals as goal

pub step_word-requires : goal.step_word-requires
step_word-requires c =
    let p = c.requires in
    (p.0, omega arith, p.2, λ note a b. p.3 note (omega arith) (omega arith))

pub step_word-requires-2 : goal.step_word-requires-2
step_word-requires-2 c =
    let p = c.requires in
    let levels = c.args.levels.now in
    let e = c.step_word.ensures in
    let kept = still-accepted _ levels 0 64 128 (omega (arith, p.0)) (λ note a b. p.3 note (omega arith) b) in
    let rest = subst (λ (xs : List Float). Accepted xs 64 128) (sym e) kept in
    (ap length e ∙ length-map_range _ 0 64 levels ∙ p.0, omega arith, p.2, rest)

pub returns : goal.returns
returns c =
    let a = c.args in
    let held = a.held.now in
    let levels = a.levels.now in
    let after = c.step_word.new.levels in
    let one = c.word_of-first.ensures in
    let two = c.word_of-second.ensures in
    let step : ℕ → ℕ → ℕ → ℕ → List Float → List Float = λ word i lo hi xs. map_range (by_word a.alpha word i) lo hi xs in
    by-words a.alpha held levels after c.requires.0 one.1 two.1
    (c.step_word.ensures ∙ ap (λ (word : ℕ). step word 0 0 64 levels) one.0)
    (c.step_word-2.ensures ∙ ap (λ (word : ℕ). step word 1 64 128 after) two.0)
