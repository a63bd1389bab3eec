-- The minimum and maximum of a run of a list: of the entries from index `lo` on and below `hi`, as
-- far as the list goes. Assumes nothing.
use Rattle.std.specs.Prelude.{◌≡◌, List, ℕ, ◌≤◌, ◌<◌, T, length, get_or, Float}
use Rattle.std.specs.Float.{nan, binary32}
use Rattle.std.specs.Float.Ieee.{of_bits, le}
use Rattle.float_laws.specs.Units.{number}

-- no entry of the run is NaN; infinities are allowed
abbrev pub Numbers : ℕ → ℕ → List Float → Type 0
Numbers lo hi xs = (k : ℕ) → lo ≤ k → k < hi → k < length xs → T (number binary32 (get_or xs k nan))

-- x is an entry of the run
pub record Held (x : Float) (lo hi : ℕ) (xs : List Float) : Type 0 where
  pub place : ℕ
  pub from : lo ≤ place
  pub below : place < hi
  pub within : place < length xs
  pub is : x ≡ get_or xs place nan

-- r is not above any entry of the run, and is one of them unless the run is empty
pub record Least (r : Float) (lo hi : ℕ) (xs : List Float) : Type 0 where
  pub is_number : T (number binary32 r)
  pub least : (k : ℕ) → lo ≤ k → k < hi → k < length xs → T (le r (get_or xs k nan))
  pub held : lo < hi → lo < length xs → Held r lo hi xs

-- r is not below any entry of the run, and is one of them unless the run is empty
pub record Greatest (r : Float) (lo hi : ℕ) (xs : List Float) : Type 0 where
  pub is_number : T (number binary32 r)
  pub greatest : (k : ℕ) → lo ≤ k → k < hi → k < length xs → T (le (get_or xs k nan) r)
  pub held : lo < hi → lo < length xs → Held r lo hi xs

-- the largest finite f32 and its negative: the minimum and the maximum of an empty run
abbrev pub largest : Float
largest = of_bits binary32 0x7f7f_ffff

abbrev pub lowest : Float
lowest = of_bits binary32 0xff7f_ffff
