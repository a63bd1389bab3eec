-- P keeps its rule: one test that runs over the whole table shows it. Assumes nothing.
use Rattle.std.specs.Prelude.{◌≡◌, refl, Bool, ◌&&◌, ℕ, suc, ◌+◌, ◌*◌, ◌^◌, ◌≤◌, T, leb, ltb, length, take, drop}
use Rattle.std.proofs.Common.{arith, leb→le, ltb→lt}
use Rattle.std.specs.Float.Ieee.Fits.{and_l, and_r}
use Rattle.lists.specs.Tested.{every, every-at, every-join}
use Rattle.power.specs.Table.{high_bits, low_bits, power_table, P}
use Rattle.power.specs.Rules.{Root, Roots}

abbrev is_root : ℕ → ℕ → ℕ → Bool
is_root n j x = leb (x ^ n) (2 ^ (30 * n + j)) && ltb (2 ^ (30 * n + j)) (suc x ^ n)

abbrev is_entry : ℕ → ℕ → Bool
is_entry = is_root (2 ^ high_bits)

-- The test of 128 entries from entry j on. Over the whole table at once it would pass antt's bound
-- on the steps of one declaration.
abbrev PieceFrom : ℕ → Type 0
PieceFrom j = T (every is_entry j (take 128 (drop j power_table)))

from-0 : PieceFrom 0
unfolding power_table
from-0 = tt

from-128 : PieceFrom 128
unfolding power_table
from-128 = tt

from-256 : PieceFrom 256
unfolding power_table
from-256 = tt

from-384 : PieceFrom 384
unfolding power_table
from-384 = tt

from-512 : PieceFrom 512
unfolding power_table
from-512 = tt

from-640 : PieceFrom 640
unfolding power_table
from-640 = tt

from-768 : PieceFrom 768
unfolding power_table
from-768 = tt

from-896 : PieceFrom 896
unfolding power_table
from-896 = tt

from-1024 : PieceFrom 1024
unfolding power_table
from-1024 = tt

all-roots : T (every is_entry 0 power_table)
unfolding power_table
all-roots =
    every-join is_entry 128 0 (drop 0 power_table) from-0
    (every-join is_entry 128 128 (drop 128 power_table) from-128
    (every-join is_entry 128 256 (drop 256 power_table) from-256
    (every-join is_entry 128 384 (drop 384 power_table) from-384
    (every-join is_entry 128 512 (drop 512 power_table) from-512
    (every-join is_entry 128 640 (drop 640 power_table) from-640
    (every-join is_entry 128 768 (drop 768 power_table) from-768
    (every-join is_entry 128 896 (drop 896 power_table) from-896 from-1024)))))))

-- P has 1,025 entries
pub powers-length : length power_table ≡ suc (2 ^ high_bits)
unfolding power_table
powers-length = refl

is-root : (j : ℕ) → j ≤ 2 ^ high_bits → Root (2 ^ high_bits) j (P j)
is-root j h =
    let n = 2 ^ high_bits in
    let t = every-at 0 is_entry power_table all-roots j (rw powers-length (omega arith)) in
    record {
      most = leb→le (P j ^ n) (2 ^ (30 * n + j)) (and_l (leb (P j ^ n) (2 ^ (30 * n + j))) (ltb (2 ^ (30 * n + j)) (suc (P j) ^ n)) t);
      more = ltb→lt (2 ^ (30 * n + j)) (suc (P j) ^ n) (and_r (leb (P j ^ n) (2 ^ (30 * n + j))) (ltb (2 ^ (30 * n + j)) (suc (P j) ^ n)) t);
    }

pub P-rule : Roots high_bits low_bits P
P-rule = record { bits = refl; root = is-root }
