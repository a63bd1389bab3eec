-- `sine::wave::entry` meets its contract: the lent table is R, whose entries are at most 2 ^ 30 and
-- so fit. Assumes nothing.
use mathlib.Core.Path.{sym, subst, ap}
use mathlib.Core.List.{List}
use Prim.Native.Nat.{ℕ, ◌<◌}
use native.Mathlib.Nat.{lt_of_le_of_lt}
use lib.Dec.{lit<}
use lib.ListN.{get_or}
use Rattle.sine.proofs.Entries.{R-small}
use Rattle.sine.proofs.wave.entry.Goals as goal

pub overflow_cast-result : goal.overflow_cast-result
overflow_cast-result c =
    record {
      fits = subst (λ (l : List ℕ). get_or l c.args.j 0 < 18446744073709551616) (sym c.args.sines.now.is_sine_table) (lt_of_le_of_lt (R-small c.args.j c.requires) (lit< tt));
    }

pub returns : goal.returns
returns c = ap (λ (l : List ℕ). get_or l c.args.j 0) c.args.sines.now.is_sine_table
