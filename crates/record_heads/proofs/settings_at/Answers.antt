-- `settings_at` meets its contract. Assumes nothing.
use mathlib.Core.Path.{◌∙◌}
use Rattle.record_heads.proofs.settings_at.Goals as goal

pub returns : goal.returns
returns c =
    c.settings_of.ensures
    ∙ simp (c.floats_at.ensures, c.head_at.ensures.0)
