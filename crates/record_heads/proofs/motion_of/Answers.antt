-- `motion_of` meets its contract. Assumes nothing.
use Rattle.record_heads.proofs.Fields.{masked}
use Rattle.record_heads.specs.Heads.{settings_of}
use Rattle.record_heads.proofs.motion_of.Goals as goal

pub returns : goal.returns
unfolding settings_of
returns c =
    simp (
      c.shape_of.ensures,
      c.field_at.ensures,
      masked c.args.number 16 3,
    )
