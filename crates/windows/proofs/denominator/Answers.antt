-- `denominator` is the definition's: the sum so far, run on over the offsets that are left, is the
-- whole sum, and `at` is the index that the next offset reads. Assumes nothing.
use mathlib.Core.Path.{◌≡◌, sym, ap, ◌∙◌}
use Prim.Native.Nat.{ℕ, ◌+◌, ◌*◌, ◌%◌, ◌<◌}
use native.Mathlib.Nat.{zero-mul, add-zero, add-mul, one-mul, mod-eq_of_lt, mod-add-mod, sub-zero}
use native.Mathlib.Omega.{arith}
use lib.ListN.{length, get_or}
use lib.Ieee.{Float, nan, binary32, add, of_bits, of_fields}
use Rattle.lists.specs.Folds.{range-next, range_none, fold_step, fold_end}
use Rattle.float_laws.specs.Order.{maximum}
use Rattle.float_laws.specs.Window.{squared}
use Rattle.float_laws.specs.Classes.{energy_at, least_divisor}
use Rattle.float32.proofs.OrderAgrees.{maximum-agrees}
use Rattle.windows.proofs.denominator.Goals as goal

first-index : (i hop n : ℕ) → i < n → i ≡ (i + 0 * hop) % n
first-index i hop n h = rw (zero-mul, add-zero) (sym (mod-eq_of_lt h))

next-index : (i k hop n at : ℕ) → at ≡ (i + k * hop) % n → (at + hop) % n ≡ (i + (k + 1) * hop) % n
next-index i k hop n at e =
    ap (λ (a : ℕ). (a + hop) % n) e ∙ mod-add-mod (i + k * hop) n hop ∙ ap (λ (a : ℕ). a % n) (let z : i + k * hop + hop ≡ i + (k + 1) * hop = omega (arith, add-mul k 1 hop, one-mul hop) in z)

pub loop-offset-init : goal.loop-offset-init
unfolding of_bits of_fields
loop-offset-init c =
    let a = c.args in
    (c.requires.0, first-index a.index a.hop (length a.analysis.now) c.requires.0, rw (sub-zero a.overlap))

pub a_hop_on-at-requires : goal.a_hop_on-at-requires
a_hop_on-at-requires c = omega arith

pub loop-offset-preserved : goal.loop-offset-preserved
loop-offset-preserved c =
    let l = c.loop-offset in
    let a = c.args in
    let w = a.analysis.now in
    let read : get_or w l.at nan ≡ get_or w ((a.index + l.offset * a.hop) % length w) nan = ap (λ (i : ℕ). get_or w i nan) l.invariant.1 in
    let step : c.powi2-sum.result ≡ squared binary32 (get_or w ((a.index + l.offset * a.hop) % length w) nan) = c.powi2-sum.ensures ∙ ap (squared binary32) read in (
      c.a_hop_on-at.ensures.0,
      c.a_hop_on-at.ensures.1 ∙ next-index a.index l.offset a.hop (length w) l.at l.invariant.1,
      rw step (sym (fold_step (λ s k. add binary32 s (squared binary32 (get_or w ((a.index + k * a.hop) % length w) nan))) l.sum (range-next l.offset a.overlap (omega arith))) ∙ l.invariant.2),
    )

pub returns : goal.returns
returns c =
    let l = c.loop-offset in
    let a = c.args in
    let w = a.analysis.now in
    let whole : l.sum ≡ energy_at binary32 w a.hop a.overlap a.index = sym (fold_end (λ s k. add binary32 s (squared binary32 (get_or w ((a.index + k * a.hop) % length w) nan))) l.sum (range_none l.offset a.overlap (omega arith))) ∙ l.invariant.2 in
    c.max.ensures ∙ maximum-agrees _ _ ∙ ap (λ (s : Float). maximum s least_divisor) whole
