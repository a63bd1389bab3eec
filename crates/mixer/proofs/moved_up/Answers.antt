-- `moved_up` meets its contract: the entries passed have their followers' strips. Assumes nothing.
use mathlib.Core.Path.{◌≡◌, refl}
use mathlib.Core.Logic.{inl}
use native.Mathlib.Omega.{arith}
use lib.ListN.{length}
use borrow.Author.Rules.{rules}
use Rattle.lists.specs.Turned.{turned_none, turned_more, turned-to}
use Rattle.mixer.proofs.moved_up.Goals as goal

pub loop-i-init : goal.loop-i-init
loop-i-init c = (turned_none _ _ _, omega arith)

pub loop-i-preserved : goal.loop-i-preserved
loop-i-preserved c =
    let l : length c.args.strips ≡ 16 = search rules in
    (turned_more 0 c.loop-i.invariant.0 (omega arith) refl, omega arith)

pub returns : goal.returns
returns c = turned-to _ c.loop-i.invariant.0 (inl c.loop-i.invariant.1) (omega arith)
