-- `count_of` meets its contract. Assumes nothing.
use native.Mathlib.Omega.{arith}
use mathlib.Core.Path.{◌∙◌}
use Rattle.record_heads.proofs.Fields.{masked}
use Rattle.record_heads.proofs.count_of.Goals as goal

pub returns : goal.returns
returns c =
    let e = c.field_at.ensures ∙ masked c.args.number 3 8 in (e, omega (arith, e))
