-- An accepted call takes no logarithm of a centre off its domain: its voices are within their
-- limits, and so each of their partials has a positive normal centre. Assumes nothing.
use lib.ListN.{get_or}
use Rattle.scene.specs.Accepted.{no_voice}
use Rattle.lobes.specs.Grid.{grid_of}
use Rattle.lobes.proofs.Centers.{center-normal}
use Rattle.chord_law.specs.Calls.{given}
use Rattle.chord_law.specs.Centers.{CentersLaw}
use Rattle.chord_law.proofs.Acceptance.{given-real}

pub centers-law : CentersLaw
centers-law call f accepted i h =
    center-normal (grid_of call.config) (get_or (given call) i no_voice)
    (given-real call accepted f i h)
