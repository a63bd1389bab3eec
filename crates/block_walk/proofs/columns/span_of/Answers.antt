-- `span_of`: the lobes before the current one lie within the span so far, and each has at most
-- 8,193 bins. Assumes nothing.
use mathlib.Core.Path.{◌≡◌, subst}
use mathlib.Core.List.{List}
use Prim.Native.Nat.{ℕ, ◌+◌, ◌-◌, ◌≤◌, ◌<◌, min, max}
use native.Mathlib.Decide.{dec_lt}
use native.Mathlib.Omega.{arith}
use lib.ListN.{get_or}
use Rattle.lobes.specs.declared.Lobe.{Lobe}
use Rattle.lobe_joins.specs.Joined.{no_lobe}
use borrow.Author.Rules.{rules}
use Rattle.block_walk.proofs.columns.span_of.Invariants.{Within}
use Rattle.block_walk.proofs.columns.span_of.Goals as goal

one_more : (lobes : List Lobe) (p first last first' last' : ℕ) → Within lobes p first last → first' ≡ min first (get_or lobes p no_lobe).first_bin → last' ≡ max last (get_or lobes p no_lobe).last_bin
    → Within lobes (p + 1) first' last'
one_more lobes p first last first' last' w e f q h = go (dec_lt q p)
  where
    go : Dec (q < p) → (first' ≤ (get_or lobes q no_lobe).first_bin) × ((get_or lobes q no_lobe).last_bin ≤ last')
    go (yes y) = (omega (arith, (w q y).0), omega (arith, (w q y).1))
    go (no n) =
        let z : p ≡ q = omega arith in
        subst (λ (k : ℕ). (first' ≤ (get_or lobes k no_lobe).first_bin) × ((get_or lobes k no_lobe).last_bin ≤ last')) z (omega arith, omega arith)

pub overflow_add-first : goal.overflow_add-first
overflow_add-first c = omega (arith, c.requires.1)

pub loop-p-init : goal.loop-p-init
loop-p-init c = (search rules, omega arith, omega arith, omega arith, λ q h. absurd (omega arith))

pub offset_bounds-lobes-p : goal.offset_bounds-lobes-p
offset_bounds-lobes-p c = omega (arith, c.loop-p-test.true, c.requires.0)

pub bounds-lobes-p : goal.bounds-lobes-p
bounds-lobes-p c = omega (arith, c.loop-p-test.true, c.requires.0)

pub bins_between-cost-requires : goal.bins_between-cost-requires
bins_between-cost-requires c =
    omega (arith, c.requires.1, c.requires.2 _ c.loop-p-test.true)

pub overflow_add-cost : goal.overflow_add-cost
overflow_add-cost c =
    omega (arith, c.bins_between-cost.ensures, c.loop-p.invariant.3, c.loop-p-test.true, c.requires.0)

pub loop-p-preserved : goal.loop-p-preserved
loop-p-preserved c =
    let l = c.loop-p in (
      l.invariant.0,
      omega (arith, c.loop-p-test.true),
      omega (arith, c.max-last.ensures, l.invariant.2, c.requires.2 _ c.loop-p-test.true),
      omega (arith, c.bins_between-cost.ensures, l.invariant.3),
      one_more c.args.lobes _ _ _ _ _ l.invariant.4 c.min-first.ensures c.max-last.ensures,
    )

pub returns : goal.returns
returns c =
    let l = c.loop-p in
    (l.invariant.2, omega (arith, l.invariant.1, l.invariant.3, c.requires.0), λ q h. l.invariant.4 q (omega (arith, c.loop-p-test.false)))
