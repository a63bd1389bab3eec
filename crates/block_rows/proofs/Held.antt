-- What bins hold: opennesses are numbers, and what is not above the least of a block is not above
-- any of its bins. Assumes nothing.
use mathlib.Core.Path.{◌≡◌, sym, subst}
use mathlib.Core.Bool.{true}
use mathlib.Core.List.{List}
use Prim.Native.Nat.{ℕ, ◌+◌}
use lib.Dec.{T}
use lib.ListN.{get_or}
use lib.Ieee.{Float, nan, binary32, le}
use Rattle.float_laws.specs.Units.{real-number}
use Rattle.float_laws.specs.Order.{le-trans-f}
use Rattle.float_laws.specs.Rise.{Upto}
use Rattle.blocks.specs.Least.{Numbers, Least}
use Rattle.block_rows.specs.Most.{Opennesses, NotAbove}

-- opennesses are numbers
pub open-numbers : (lo hi : ℕ) (xs : List Float) → Opennesses xs → Numbers lo hi xs
open-numbers lo hi xs u k p q l = real-number binary32 (get_or xs k nan) (u k l).is_real

-- a number that is not above the least of a block
pub under-least : (x least : Float) (start : ℕ) (xs : List Float) → Upto binary32 3 x → Opennesses xs → Least least start (start + 64) xs → le x least ≡ true → NotAbove x start (start + 64) xs
under-least x least start xs u v w h bin p q l =
    le-trans-f binary32 x least (get_or xs bin nan) (real-number binary32 x u.is_real) w.is_number (real-number binary32 (get_or xs bin nan) (v bin l).is_real) (subst T (sym h) tt) (w.least bin p q l)
