-- `put_voice` meets its contract: the byte, then the floats. Assumes nothing.
use lib.ListN.{length, length-set}
use native.Mathlib.Omega.{arith}
use mathlib.Core.Path.{ap, ◌∙◌}
use Rattle.record_voices.proofs.Steps.{voice-stored}
use Rattle.lists.specs.Stores.{stored-length}
use Rattle.record_voices.proofs.put_voice.Goals as goal

pub put_floats-requires : goal.put_floats-requires
put_floats-requires c = simp length-set (omega arith)

pub shape_of-record : goal.shape_of-record
shape_of-record c =
    ap length c.put_floats.ensures ∙ stored-length _ _ _ ∙ simp length-set

pub returns : goal.returns
returns c =
    let a = c.args in
    c.put_floats.ensures
    ∙ voice-stored a.«record».now a.at _ a.voice _ c.pitch_byte.ensures
    c.voice_floats.ensures
