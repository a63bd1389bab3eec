-- A proved case of document 01: "four ones with overlap 2 have dual 0.5 each". Computed. Assumes
-- nothing.
use mathlib.Core.Path.{◌≡◌, refl}
use mathlib.Core.Bool.{false}
use mathlib.Core.List.{[], ◌∷◌}
use lib.IntN.{pos, negsuc}
use lib.Count.{count_trailing_zeros}
use lib.Ieee.{Float, fin, add, sum, mul, div, lt, is_nan, of_bits, of_fields, odd, round, size, span, climb, units}
use Rattle.lists.specs.Maps.{tab_from}
use Rattle.lists.specs.Folds.{fold, range}
use Rattle.windows.specs.Windows.{dual_of}

abbrev pub one : Float
one = fin false 1 (pos 0)

abbrev pub half : Float
half = fin false 1 (negsuc 0)

pub dual-of-four-ones : dual_of (one ∷ one ∷ one ∷ one ∷ []) 2 ≡ half ∷ half ∷ half ∷ half ∷ []
unfolding tab_from fold range add sum mul div lt is_nan of_bits of_fields odd count_trailing_zeros round size span climb units
dual-of-four-ones = refl
