-- `envelopes::target_of` meets its contract: a shift and a mask of one bit are a division and a
-- remainder. Assumes nothing.
use mathlib.Core.Path.{refl, sym, ◌∙◌}
use Prim.Native.Nat.{◌-◌, ◌/◌, ◌^◌}
use lib.Bits.{and_mask}
use borrow.Author.Tests.{eq-eqb, ne_eqb}
use Rattle.envelopes.proofs.target_of.Goals as goal

pub returns-then-half-place-eq1 : goal.returns-then-half-place-eq1
returns-then-half-place-eq1 c =
    let a = c.args in
    let x = a.half / 2 ^ (31 - a.bit) in
    rw (eq-eqb _ _ (sym (and_mask x 1) ∙ c.if-half-place-eq1.true)) refl

pub returns-else-half-place-eq1 : goal.returns-else-half-place-eq1
returns-else-half-place-eq1 c =
    let a = c.args in
    let x = a.half / 2 ^ (31 - a.bit) in
    rw (ne_eqb _ _ (λ e. c.if-half-place-eq1.false (and_mask x 1 ∙ e))) refl
