-- `settings_of` meets its contract. Assumes nothing.
use native.Mathlib.Omega.{arith}
use mathlib.Core.Path.{◌∙◌}
use Rattle.record_heads.proofs.Fields.{masked, one_shifted}
use Rattle.record_words.specs.Fields.{field_at}
use Rattle.record_heads.specs.Heads.{settings_of}
use Rattle.record_heads.proofs.settings_of.Goals as goal

pub overflow_shl-result : goal.overflow_shl-result
overflow_shl-result c =
    let e = c.field_at.ensures ∙ masked c.args.number 20 4 in
    omega (arith, e)

pub returns : goal.returns
unfolding settings_of
returns c =
    let n = c.args.number in
    let log = c.field_at.ensures ∙ masked n 20 4 in
    let layer = c.field_at-2.ensures ∙ masked n 19 1 in
    let partials = c.field_at-3.ensures ∙ masked n 11 5 in
    simp (
      log,
      layer,
      partials,
      one_shifted (field_at n 20 4) (omega arith),
      c.motion_of-motion.ensures,
    )
