-- `place` meets its contract: proofs/Quotient.antt says it of the quotient. Assumes nothing.
use mathlib.Core.Path.{◌≡◌}
use native.Mathlib.Omega.{arith}
use Prim.Native.Nat.{ℕ, ◌<◌}
use lib.IntN.{pos}
use lib.Ieee.{of_bits}
use borrow.Author.Tests.{lt-ltb}
use mir.Syntax.{w32}
use mir.Val.{to_z}
use Rattle.power.proofs.Quotient.{left-no-nan, left-fits, placed}
use Rattle.power.proofs.log2.place.Goals.{After-row_known-2-1}
use Rattle.power.proofs.log2.place.Goals as goal

-- the cast to a signed number loses nothing
signed : (n : ℕ) → n < 2147483648 → to_z w32 n ≡ pos n
signed n l = rw (lt-ltb n 2147483648 l)

module _ (c : After-row_known-2-1) where
  abbrev x : ℕ
  x = c.args.x

  abbrev d : ℕ
  d = c.args.d

  x-is : to_z w32 x ≡ pos x
  x-is = let p = c.requires in signed x (omega arith)

  d-is : to_z w32 d ≡ pos d
  d-is = let p = c.requires in signed d (omega arith)

pub float_to_bits-result : goal.float_to_bits-result
unfolding of_bits
float_to_bits-result c = let p = c.requires in rw (x-is c, d-is c) (left-no-nan (x c) (d c) p.0 p.1 p.2)

pub overflow_cast-result : goal.overflow_cast-result
unfolding of_bits
overflow_cast-result c = let p = c.requires in rw (x-is c, d-is c) (record { fits = let l = left-fits (x c) (d c) p.0 p.1 p.2 in omega arith })

pub overflow_sub-result : goal.overflow_sub-result
unfolding of_bits
overflow_sub-result c = let p = c.requires in rw (x-is c, d-is c) (left-fits (x c) (d c) p.0 p.1 p.2)

pub returns : goal.returns
unfolding of_bits
returns c = let p = c.requires in rw (x-is c, d-is c) (placed (x c) (d c) p.0 p.1 p.2)
