-- `raise_above` joins the lobe, or leaves it out where that would change nothing. Assumes nothing.
use mathlib.Core.Path.{◌≡◌, sym, subst}
use mathlib.Core.Bool.{true}
use mathlib.Core.List.{List}
use Prim.Native.Nat.{ℕ, ◌<◌}
use native.Mathlib.Omega.{arith}
use lib.Dec.{T}
use lib.ListN.{length, get_or}
use lib.Ieee.{Float, nan, binary32, le}
use Rattle.float_laws.specs.Units.{real-number}
use Rattle.float_laws.specs.Order.{le-trans-f}
use Rattle.float_laws.specs.Rise.{Upto}
use Rattle.blocks.specs.Least.{Least}
use Rattle.block_rows.specs.Most.{Opennesses}
use Rattle.block_rows.proofs.RowRaised.{row-above, raised-numbers}
use Rattle.block_rows.proofs.raise_above.Goals as goal

-- a bound that is not above the least of a row
not-above : (bound least : Float) (xs : List Float) → length xs ≡ 64 → Upto binary32 0 bound → Opennesses xs → Least least 0 64 xs → le bound least ≡ true → (k : ℕ) → k < length xs → T (le bound (get_or xs k nan))
not-above bound least xs e u v w h k l =
    le-trans-f binary32 bound least (get_or xs k nan) (real-number binary32 bound u.is_real) w.is_number (real-number binary32 (get_or xs k nan) (v k l).is_real)
    (subst T (sym h) tt) (w.least k (omega arith) (omega arith) l)

pub returns-then-there : goal.returns-then-there
returns-then-there c =
    (c.requires.2.already c.if-there.true, c.requires.2.row-least)

pub returns-then-bound-least : goal.returns-then-bound-least
returns-then-bound-least c = (
  row-above c.args.grid c.args.table.now c.args.lobe c.args.start c.args.end c.args.row.now c.requires.2.row_open c.requires.0.sound.measured c.args.bound c.requires.2.bound-in-unit c.requires.2.bounded
      (not-above c.args.bound c.args.least c.args.row.now c.requires.2.row-64 c.requires.2.bound-in-unit c.requires.2.row_open c.requires.2.row-least c.if-bound-least.true),
  c.requires.2.row-least,
)

pub raise_in_row-requires : goal.raise_in_row-requires
raise_in_row-requires c =
    (c.requires.0, c.requires.1, c.requires.2.row-64)

pub least_from-requires : goal.least_from-requires
least_from-requires c =
    (omega (arith, c.raise_in_row.auto.chunk, c.requires.0.scratch.chunk-64), raised-numbers c.args.grid c.args.table.now c.args.lobe c.args.start c.args.end 0 64 c.args.row.now c.raise_in_row.ensures c.requires.2.row_open c.requires.0.sound.measured)
