-- Whether a strip is in a line, as a search along it answers. Assumes nothing.
use mathlib.Core.Path.{◌≡◌, refl, ap}
use mathlib.Core.Bool.{◌||◌}
use mathlib.Core.List.{List, [], ◌∷◌}
use Prim.Native.Nat.{ℕ}
use lib.Dec.{eqb}
use Rattle.std.specs.List.{list_any}
use Rattle.mixer.specs.Mixers.{has}

pub any-has : (strip : ℕ) (l : List ℕ) → list_any (λ other. eqb other strip) l ≡ has strip l
unfolding has
any-has strip [] = refl
any-has strip (other ∷ others) = ap (λ b. eqb other strip || b) (any-has strip others)
