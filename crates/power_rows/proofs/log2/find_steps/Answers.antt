-- `find_steps` fills the first `count` entries: each entry below k is the step of its own digits,
-- or an entry of the table at an end of that. Assumes nothing.
use mathlib.Core.Path.{ap, ◌∙◌}
use mathlib.Core.Logic.{inl}
use mathlib.Core.Path.{◌≡◌}
use mathlib.Core.List.{List}
use Prim.Native.Nat.{ℕ, ◌+◌}
use native.Mathlib.Omega.{arith}
use lib.ListN.{get_or}
use Rattle.lists.specs.Turned.{turned_none, turned_more, turned-to}
use Rattle.power.specs.Table.{P}
use Rattle.power.proofs.Search.{Step, step_is}
use Rattle.power_rows.specs.Log2.{step_of, Scaled}
use Rattle.power_rows.proofs.log2.find_steps.Goals as goal

pub loop-k-init : goal.loop-k-init
loop-k-init c = (omega arith, turned_none _ _ _, turned_none _ _ _, turned_none _ _ _)

-- the step that is found of the digits at k
abbrev Found : List ℕ → ℕ → ℕ → Type 0
Found digits k h = Scaled (get_or digits k 0) × (h ≡ step_of (get_or digits k 0))

found : (digits : List ℕ) (k h : ℕ) → Found digits k h → Step (get_or digits k 0) h
found digits k h w = step_is (get_or digits k 0) h w.0.low w.0.high w.1

pub step_of-h-requires : goal.step_of-h-requires
step_of-h-requires c =
    let w = c.requires.1 c.loop-k.k c.loop-k-test.true in (w.low, w.high)

pub entry-a-requires : goal.entry-a-requires
entry-a-requires c =
    let w = c.requires.1 c.loop-k.k c.loop-k-test.true in
    let l = (found c.args.digits.now c.loop-k.k c.step_of-h.result (w, c.step_of-h.ensures)).within in
    omega arith

pub entry-b-requires : goal.entry-b-requires
entry-b-requires c =
    let w = c.requires.1 c.loop-k.k c.loop-k-test.true in
    let l = (found c.args.digits.now c.loop-k.k c.step_of-h.result (w, c.step_of-h.ensures)).within in
    omega arith

pub loop-k-preserved : goal.loop-k-preserved
loop-k-preserved c =
    let v = c.loop-k.invariant in (
      omega arith,
      turned_more 0 v.1 (omega (arith, c.requires.0.in-steps)) c.step_of-h.ensures,
      turned_more 0 v.2 (omega (arith, c.requires.0.in-from)) (c.entry-a.ensures ∙ ap P c.step_of-h.ensures),
      turned_more 0 v.3 (omega (arith, c.requires.0.in-to)) (c.entry-b.ensures ∙ ap (λ (h : ℕ). P (h + 1)) c.step_of-h.ensures),
    )

pub shape_of-steps : goal.shape_of-steps
shape_of-steps c = c.loop-k.invariant.1.len

pub shape_of-from : goal.shape_of-from
shape_of-from c = c.loop-k.invariant.2.len

pub shape_of-to : goal.shape_of-to
shape_of-to c = c.loop-k.invariant.3.len

pub returns : goal.returns
returns c =
    let v = c.loop-k.invariant in
    (turned-to _ v.1 (inl v.0) (omega arith), turned-to _ v.2 (inl v.0) (omega arith), turned-to _ v.3 (inl v.0) (omega arith))
