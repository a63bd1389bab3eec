-- `none_outside` meets its contract: while nothing was counted, the search from here on finds what
-- the whole search finds. Assumes nothing.
use mathlib.Core.Path.{◌≡◌, refl, sym, ◌∙◌, subst}
use mathlib.Core.Bool.{Bool, true, false, not}
use Prim.Native.Nat.{ℕ, ◌+◌, ◌≤◌}
use native.Mathlib.Omega.{arith}
use lib.Dec.{T, eqb→eq}
use lib.ListN.{length}
use lib.Ieee.{nan}
use mir.Val.{bool_byte}
use Rattle.limits.proofs.Searches.{Searched, searched-on, found_none}
use Rattle.refusals.specs.Masks.{entry_accepted}
use Rattle.refusals.proofs.none_outside.Goals as goal

-- what an entry adds to the count
at_most_one : (b : Bool) → bool_byte b ≤ 1
at_most_one true = omega arith
at_most_one false = omega arith

none-counted : (ok : Bool) (n : ℕ) → n + bool_byte (not ok) ≡ 0 → (n ≡ 0) × (ok ≡ true)
none-counted true n z = (omega arith, refl)
none-counted false n z = absurd (omega arith)

pub loop-bin-preserved : goal.loop-bin-preserved
loop-bin-preserved c =
    let l = c.loop-bin in
    let kept : l.outside + bool_byte (not c.entry_accepted.result) ≡ 0 → Searched nan entry_accepted c.args.table.now (l.bin + 1) = λ z.
    let both = none-counted c.entry_accepted.result l.outside z in
    searched-on nan _ _ _ (omega arith) (sym c.entry_accepted.ensures ∙ both.1) (l.invariant.1 both.0) in
    (omega (arith, at_most_one (not c.entry_accepted.result), l.invariant.0), kept)

pub returns : goal.returns
returns c none =
    let l = c.loop-bin in
    let end : l.bin ≡ length c.args.table.now = omega arith in
    sym (found_none nan _ _ _ (omega arith) (l.invariant.1 (eqb→eq l.outside 0 (subst T (sym none) tt)))) ∙ end
