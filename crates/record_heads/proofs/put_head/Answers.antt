-- `put_head` meets its contract. Assumes nothing.
use mathlib.Core.Path.{◌∙◌}
use Rattle.record_heads.proofs.Heads.{head-stored}
use Rattle.record_heads.proofs.put_head.Goals as goal

pub returns : goal.returns
returns c =
    let a = c.args in
    c.put_floats.ensures
    ∙ head-stored a.«record».now _ a.config a.count _ _ c.put_three.ensures
    c.head_number.ensures c.settings_floats.ensures
