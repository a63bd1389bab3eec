-- `build_two` meets its contract: where every voice is at the centre the mono mask is both,
-- otherwise each side is built from its own openness. Assumes nothing.
use mathlib.Core.Path.{sym, subst, ◌∙◌}
use lib.Dec.{T}
use Rattle.lobes.specs.Pan.{left, right}
use Rattle.lobes.specs.Distance.{lent, IfLent}
use Rattle.mask_builder.proofs.Built.{finished, one-mask}
use borrow.Author.Rules.{rules}
use Rattle.mask_builder.proofs.build_two.Goals as goal

pub build_one-requires : goal.build_one-requires
unfolding IfLent
build_one-requires c =
    (c.requires.0, c.requires.1, c.requires.2, c.requires.3, c.requires.5, c.requires.6)

pub returns-then-all_centered : goal.returns-then-all_centered
returns-then-all_centered c =
    let a = c.args in
    let t = subst T (sym c.if-all_centered.true ∙ c.all_centered.ensures) tt in
    let built = c.build_one.ensures in record { left_after = built ∙ one-mask a.curve.now a.config (lent a.table.now) left _ t; right_after = c.copy.ensures ∙ built ∙ one-mask a.curve.now a.config (lent a.table.now) right _ t }

pub finish_two-requires : goal.finish_two-requires
finish_two-requires c = (search rules, search rules, search rules, search rules)

pub returns : goal.returns
returns c = record { left_after = finished _ _ _ _ _ _ c.requires.3 c.open_sides.ensures.left_after c.finish_two.ensures.left_after; right_after = finished _ _ _ _ _ _ c.requires.4 c.open_sides.ensures.right_after c.finish_two.ensures.right_after }
