-- `voice_at` meets its contract: each float at its place. Assumes nothing.
use Rattle.record_voices.proofs.Steps.{voice-read}
use Rattle.record_voices.proofs.voice_at.Goals as goal

pub returns : goal.returns
returns c =
    let a = c.args in
    simp (
      c.pitch_in-pitch.ensures,
      c.float_at.ensures,
      c.float_at-2.ensures,
      c.float_at-3.ensures,
      c.float_at-4.ensures,
      c.float_at-5.ensures,
      c.float_at-6.ensures,
      c.float_at-7.ensures,
    )
    (voice-read a.«record».now a.at)
