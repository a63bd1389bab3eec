-- `centered` meets its contract in either case of its test. Assumes nothing.
use Rattle.mask_builder.proofs.centers.centered.Goals as goal

pub returns-then-voice : goal.returns-then-voice
returns-then-voice c = simp c.if-voice.true

pub returns : goal.returns
returns c = simp (c.if-voice.false, c.pan_of.ensures)
