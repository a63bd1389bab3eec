-- `lobes_of` computes every lobe: those below the current index are done. Assumes nothing.
use mathlib.Core.Path.{◌≡◌, ◌∙◌}
use native.Mathlib.Omega.{arith}
use lib.ListN.{length}
use Rattle.lists.specs.Turned.{turned_none, turned_more}
use Rattle.lobe_joins.specs.Joined.{no_lobe}
use Rattle.tone_lobes.proofs.Listed.{partials-few, lobes-taken}
use Rattle.tone_lobes.proofs.lobes_of.Goals as goal

pub loop-p-init : goal.loop-p-init
loop-p-init c =
    (turned_none _ _ _, omega arith, omega (arith, c.requires.0, c.requires.3, partials-few c.args.grid c.args.tone))

pub overflow_add-p : goal.overflow_add-p
overflow_add-p c = omega (arith, c.loop-p-test.true, c.loop-p.invariant.2)

pub lobe_of-requires : goal.lobe_of-requires
lobe_of-requires c =
    (c.requires.1, omega (arith, c.loop-p-test.true, c.loop-p.invariant.2), c.requires.2)

pub bounds-lobes-p : goal.bounds-lobes-p
bounds-lobes-p c = omega (arith, c.loop-p-test.true, c.loop-p.invariant.2)

pub loop-p-preserved : goal.loop-p-preserved
loop-p-preserved c =
    let l : length c.empty_lobes-lobes.result ≡ 24 = c.empty_lobes-lobes.ensures in
    (turned_more no_lobe c.loop-p.invariant.0 (omega (arith, c.loop-p-test.true, c.loop-p.invariant.2)) c.lobe_of.ensures, omega (arith, c.loop-p-test.true), c.loop-p.invariant.2)

pub returns : goal.returns
returns c =
    let l : length c.empty_lobes-lobes.result ≡ 24 = c.empty_lobes-lobes.ensures in
    (lobes-taken _ _ _ _ c.loop-p.invariant.0 (omega (arith, c.loop-p-test.false, c.loop-p.invariant.1)) c.requires.3 (omega (arith, c.loop-p.invariant.2)), c.loop-p.invariant.0.len ∙ l)
