-- `lobes::tones::harmonic_gain` meets its contract: the entry that it reads is the partial's
-- logarithm. Assumes nothing.
use mathlib.Core.Path.{◌∙◌}
use native.Mathlib.Omega.{arith}
use lib.Ieee.{nan}
use Rattle.lists.specs.Maps.{get_d_tabulate}
use Rattle.lobes.specs.Tone.{octaves_of, partial_octaves, harmonic_gain}
use Rattle.lobes.proofs.tones.harmonic_gain.Goals as goal

pub returns : goal.returns
unfolding harmonic_gain partial_octaves
returns c =
    c.gain.ensures ∙ simp (c.args.octaves.now.is_partial_octaves, get_d_tabulate octaves_of 25 c.args.partial nan (omega (arith, c.requires)))
