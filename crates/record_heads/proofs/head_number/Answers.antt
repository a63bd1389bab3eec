-- `head_number` meets its contract: each field stands behind the ones before it. Assumes nothing.
use Rattle.std.proofs.Common.{◌∙◌, arith}
use Rattle.record_heads.proofs.Fields.{layer_is}
use Rattle.record_heads.specs.Heads.{packed}
use Rattle.record_heads.proofs.head_number.Goals as goal

pub returns : goal.returns
unfolding packed
returns c =
    let layer = c.from.ensures ∙ layer_is c.args.config.note_layer_enabled in
    omega (arith, layer, c.from-2.ensures.0)
