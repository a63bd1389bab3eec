-- `raise_voice` leaves both sides as they are where the voice is skipped, and else joins its tone
-- by its gains. Assumes nothing.
use Rattle.lobes.proofs.Lent.{if-lent}
use Rattle.openness.specs.Sides.{first_side, second_side}
use Rattle.openness.proofs.EachVoice.{voice-skipped, voice-joined}
use Rattle.openness.proofs.ReadyVoices.{tone-ready}
use Rattle.openness.proofs.voices.raise_voice.Goals as goal

pub returns-then-voice : goal.returns-then-voice
returns-then-voice c = (voice-skipped _ _ _ _ _ c.if-voice.true, voice-skipped _ _ _ _ _ c.if-voice.true)

pub raise_tone-requires : goal.raise_tone-requires
raise_tone-requires c =
    record {
      scratch = c.requires.scratch;
      few = c.requires.few;
      on-grid = c.requires.on-grid;
      walk =
          if-lent _ c.requires.walk
          (λ table e walk compact.
          let k = walk compact in
          record {
            sides = k.sides;
            tone-ready = tone-ready c.args.way.grid table c.args.voice (first_side c.args.way.stereo) (second_side c.args.way.stereo) k.grid-real k.voice-real c.tone_of-tone.ensures c.gains_of-gains.ensures.0 c.gains_of-gains.ensures.1;
          });
    }

pub returns : goal.returns
returns c =
    let kept = c.if-voice.false in (
      voice-joined _ _ _ _ _ kept c.gains_of-gains.ensures.0 c.tone_of-tone.ensures c.raise_tone.ensures.0,
      voice-joined _ _ _ _ _ kept c.gains_of-gains.ensures.1 c.tone_of-tone.ensures c.raise_tone.ensures.1,
    )
