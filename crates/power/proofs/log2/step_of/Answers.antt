-- `step_of` meets its contract: the guess is a step of the table (proofs/Guess.antt). Assumes
-- nothing.
use native.Mathlib.Omega.{arith}
use Rattle.power.proofs.Guess.{Guess, guess-is}
use Rattle.power.proofs.log2.step_of.Goals.{After-guess-h}
use Rattle.power.proofs.log2.step_of.Given.{Over}
use Rattle.power.proofs.log2.step_of.Goals as goal

guessed : (g : Over) (c : After-guess-h g) → Guess c.args.t c.guess-h.result
guessed g c = let p = c.requires in rw c.guess-h.ensures (guess-is c.args.t p.0 p.1)

pub entry-requires : goal.entry-requires
entry-requires g c = let l = (guessed g c).within in omega arith
