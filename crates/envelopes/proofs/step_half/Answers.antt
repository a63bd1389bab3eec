-- `envelopes::step_half` meets its contract: after n iterations the first n levels of the half have
-- made their step, and the others are as they were. Assumes nothing.
use mathlib.Core.Path.{◌≡◌, sym, ap, subst, ◌∙◌}
use mathlib.Core.Logic.{inl}
use Prim.Native.Nat.{ℕ, ◌+◌, ◌-◌, ◌*◌, ◌%◌, ◌<◌}
use native.Mathlib.Nat.{add-zero}
use native.Mathlib.Omega.{arith}
use lib.Dec.{T}
use lib.ListN.{length, get_or, set}
use lib.Ieee.{Float, nan}
use borrow.Author.Rules.{rules}
use Rattle.lists.specs.Turned.{Turned, turned_none, turned_more, turned-read, turned-to}
use Rattle.limits.specs.Limits as limits
use Rattle.envelopes.specs.Envelope.{next_level}
use Rattle.envelopes.specs.Words.{is_set}
use Rattle.envelopes.proofs.step_half.Invariants.{stepped}
use Rattle.envelopes.proofs.step_half.Goals as goal

place : (index bit : ℕ) → bit < 32 → (32 * index + bit) % 32 ≡ bit
place index bit h = omega arith

next : (a b : ℕ) → a + b + 1 ≡ a + (b + 1)
next a b = omega arith

pub loop-bit-init : goal.loop-bit-init
loop-bit-init c =
    let a = c.args in
    let p = c.requires in record {
      turned = subst (λ (k : ℕ). Turned (stepped a.half a.alpha) (32 * a.index) a.levels.now a.levels.now k) (sym (add-zero (32 * a.index))) (turned_none _ _ _);
      notes = p.0;
      within = (omega arith, p.1);
      alpha-accepted = p.2;
      accepted = p.3;
    }

pub overflow_mul-note : goal.overflow_mul-note
overflow_mul-note c = let w = c.loop-bit.invariant.within in search rules

pub overflow_add-note : goal.overflow_add-note
overflow_add-note c = let w = c.loop-bit.invariant.within in search rules

pub offset_bounds-levels-note : goal.offset_bounds-levels-note
offset_bounds-levels-note c = let w = c.loop-bit.invariant.within in search rules

pub bounds-levels-note : goal.bounds-levels-note
bounds-levels-note c =
    let v = c.loop-bit.invariant in
    let w = v.within in
    omega (arith, v.turned.len, v.notes, c.loop-bit-test.true)

pub next_level-requires : goal.next_level-requires
next_level-requires c =
    let v = c.loop-bit.invariant in
    let w = v.within in
    let index = c.args.index in
    let t = c.loop-bit-test.true in
    let still = turned-read nan v.turned (omega (arith, v.notes)) in
    (t, v.alpha-accepted, subst (λ (x : Float). T (limits.level x)) (sym still) (v.accepted _ (omega arith) (omega arith)))

pub offset_bounds-levels-note-in-loop-bit : goal.offset_bounds-levels-note-in-loop-bit
offset_bounds-levels-note-in-loop-bit c = let w = c.loop-bit.invariant.within in search rules

pub bounds-levels-note-in-loop-bit : goal.bounds-levels-note-in-loop-bit
bounds-levels-note-in-loop-bit c =
    let v = c.loop-bit.invariant in
    let w = v.within in
    omega (arith, v.turned.len, v.notes, c.loop-bit-test.true)

pub loop-bit-preserved : goal.loop-bit-preserved
loop-bit-preserved c =
    let l = c.loop-bit in
    let a = c.args in
    let v = l.invariant in
    let w = v.within in
    let t = c.loop-bit-test.true in
    let i = 32 * a.index in
    let n = l.bit in
    let inside : i + n < length a.levels.now = omega (arith, v.notes) in
    let step : c.next_level.result ≡ stepped a.half a.alpha (i + n) (get_or a.levels.now (i + n) nan) =
    c.next_level.ensures
    ∙ ap (λ (x : Float). next_level (is_set a.half (31 - n)) a.alpha x) (turned-read nan v.turned inside)
    ∙ ap (λ (k : ℕ). next_level (is_set a.half (31 - k)) a.alpha (get_or a.levels.now (i + n) nan)) (sym (place a.index n t)) in record {
      turned = subst (λ (k : ℕ). Turned (stepped a.half a.alpha) i a.levels.now (set l.levels (i + n) c.next_level.result) k) (next i n) (turned_more nan v.turned inside step);
      notes = v.notes;
      within = (omega arith, w.1);
      alpha-accepted = v.alpha-accepted;
      accepted = v.accepted;
    }

pub shape_of-levels : goal.shape_of-levels
shape_of-levels c = c.loop-bit.invariant.turned.len

pub returns : goal.returns
returns c =
    let i = 32 * c.args.index in
    let b = c.loop-bit.invariant.within.0 in
    turned-to (i + 32) c.loop-bit.invariant.turned (inl (omega arith)) (omega arith)
