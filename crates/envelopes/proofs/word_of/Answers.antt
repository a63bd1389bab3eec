-- `envelopes::word_of` meets its contract: after n iterations the word is the number of the first
-- n bytes. Assumes nothing.
use mathlib.Core.Path.{◌≡◌, refl, sym, ap, subst, ◌∙◌}
use Prim.Native.Nat.{ℕ, ◌+◌, ◌-◌, ◌*◌, ◌<◌}
use native.Mathlib.Omega.{arith}
use lib.Dec.{lit<}
use Rattle.lists.specs.Bytes.{number_at}
use Rattle.envelopes.specs.Words.{Bytes}
use Rattle.envelopes.proofs.Words.{number_more, bytes-more, below_more, seven-at-most}
use Rattle.envelopes.proofs.word_of.Goals as goal

pub loop-k-init : goal.loop-k-init
unfolding number_at
loop-k-init c =
    let p = c.requires in
    record { is = refl; below = lit< tt; bytes = λ k h. absurd (omega arith); within = (omega arith, p.1); sixteen = p.0 }

pub overflow_mul-word : goal.overflow_mul-word
overflow_mul-word c =
    let v = c.loop-k.invariant in
    record { fits = omega (arith, v.below, seven-at-most _ c.loop-k-test.true) }

pub byte_of-requires : goal.byte_of-requires
byte_of-requires c =
    let v = c.loop-k.invariant in
    (v.sixteen, v.within.1, c.loop-k-test.true)

pub overflow_add-word : goal.overflow_add-word
overflow_add-word c =
    record { fits = omega (arith, c.loop-k.invariant.below, seven-at-most _ c.loop-k-test.true, c.wide.ensures.1) }

pub loop-k-preserved : goal.loop-k-preserved
loop-k-preserved c =
    let l = c.loop-k in
    let v = l.invariant in
    let a = c.args in
    let e = c.wide.ensures.0 ∙ c.byte_of.ensures in
    let small = c.wide.ensures.1 in
    let byte = subst (λ (b : ℕ). b < 256) e small in record {
      is = ap (λ (w : ℕ). w * 256 + c.wide.result) v.is ∙ ap (λ (b : ℕ). number_at a.held.now (8 * a.index) l.k * 256 + b) e ∙ sym (number_more a.held.now (8 * a.index) l.k);
      below = below_more l.word c.wide.result l.k v.below small;
      bytes = bytes-more a.held.now (8 * a.index) l.k v.bytes byte;
      within = (omega (arith, c.loop-k-test.true), v.within.1);
      sixteen = v.sixteen;
    }

pub returns : goal.returns
returns c =
    let l = c.loop-k in
    let a = c.args in
    let w = l.invariant.within in
    let end : l.k ≡ 8 = omega (arith, c.loop-k-test.false) in
    (l.invariant.is ∙ ap (number_at a.held.now (8 * a.index)) end, subst (Bytes a.held.now (8 * a.index)) end l.invariant.bytes)
