-- `gains_of` is what the gain of each side ensures. Assumes nothing.
use Rattle.openness.proofs.voices.gains_of.Goals as goal

pub returns-then-stereo : goal.returns-then-stereo
returns-then-stereo c = rw c.if-stereo.true (c.channel_gain.ensures, c.channel_gain-then-stereo.ensures)

pub returns : goal.returns
returns c = rw c.if-stereo.false (c.channel_gain-gain.ensures, c.channel_gain-gain.ensures)
