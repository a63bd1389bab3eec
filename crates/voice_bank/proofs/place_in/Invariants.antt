-- `place_in` meets its contract: the search from here on finds what the whole search finds. Assumes
-- nothing.
use mathlib.Core.Path.{◌≡◌}
use mathlib.Core.Bool.{not}
use lib.Dec.{eqb}
use lib.ListN.{drop}
use Rattle.lists.specs.Folds.{first_bad_from}
use Rattle.voice_bank.specs.Banks.{place_in}
use Rattle.voice_bank.proofs.place_in.Given as goal

abbrev pub invariant-loop-place : goal.invariant-loop-place
invariant-loop-place l =
    first_bad_from (λ place x. not (eqb x l.id)) l.place (drop l.place l.ids) ≡ place_in l.id l.ids
