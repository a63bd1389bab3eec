-- `all_centered` meets its contract: the test of the voices from here on is the test of all.
-- Assumes nothing.
use mathlib.Core.Path.{◌≡◌, refl, sym, ◌∙◌}
use native.Mathlib.Omega.{arith}
use lib.ListN.{length}
use borrow.Author.Rules.{rules}
use Rattle.lists.specs.Folds.{rest-next, rest-none}
use Rattle.scene.specs.Accepted.{no_voice}
use Rattle.mask_builder.proofs.Every.{every-step, every-stop, every-end}
use Rattle.mask_builder.proofs.centers.all_centered.Invariants.{at_center}
use Rattle.mask_builder.proofs.centers.all_centered.Goals as goal

pub loop-i-init : goal.loop-i-init
loop-i-init c = (omega arith, refl)

pub loop-i-preserved : goal.loop-i-preserved
loop-i-preserved c =
    let l : length c.args.voices ≡ 128 = search rules in (
      omega arith,
      sym (every-step at_center _ (rest-next c.args.voices c.args.count c.loop-i.i no_voice (omega arith) (omega arith)) (sym c.centered.ensures ∙ c.if-not-centered.false))
          ∙ c.loop-i.invariant.1,
    )

pub returns-then-not-centered : goal.returns-then-not-centered
returns-then-not-centered c =
    let l : length c.args.voices ≡ 128 = search rules in
    sym (every-stop at_center _ (rest-next c.args.voices c.args.count c.loop-i.i no_voice (omega arith) (omega arith)) (sym c.centered.ensures ∙ c.if-not-centered.true))
    ∙ c.loop-i.invariant.1

pub returns : goal.returns
returns c =
    sym (every-end at_center _ (rest-none c.args.voices c.args.count c.loop-i.i (omega arith))) ∙ c.loop-i.invariant.1
