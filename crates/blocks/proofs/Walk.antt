-- The walk over the blocks: the ends of the first n blocks are written, and after the last block
-- those of all. Assumes nothing.
use mathlib.Core.Path.{◌≡◌, sym, subst, subst₂}
use mathlib.Core.List.{List}
use Prim.Native.Nat.{ℕ, ◌+◌, ◌*◌, ◌≤◌, ◌<◌}
use native.Mathlib.Nat.{not-suc-le-zero}
use native.Mathlib.Decide.{dec_lt}
use native.Mathlib.Omega.{arith}
use lib.ListN.{length, get_or, set}
use lib.Seq.{get_or-set_same, get_or-set_other}
use lib.Ieee.{Float, nan}
use Rattle.blocks.specs.Least.{Least, Greatest}
use Rattle.blocks.specs.Ends.{Ends}

pub record Ended (n : ℕ) (table lows highs : List Float) : Type 0 where
  pub low : (b : ℕ) → b < n → Least (get_or lows b nan) (1 + 64 * b) (65 + 64 * b) table
  pub high : (b : ℕ) → b < n → Greatest (get_or highs b nan) (1 + 64 * b) (65 + 64 * b) table

pub ended-none : (table lows highs : List Float) → Ended 0 table lows highs
ended-none table lows highs = record { low = λ b h. absurd (not-suc-le-zero h); high = λ b h. absurd (not-suc-le-zero h) }

-- a fact of each entry below n, and of the new entry at n
one_more : (P : ℕ → Float → Type 0) (n : ℕ) (xs : List Float) (x : Float) → n < length xs → ((b : ℕ) → b < n → P b (get_or xs b nan)) → P n x
    → (b : ℕ) → b < n + 1 → P b (get_or (set xs n x) b nan)
one_more P n xs x l old new b h = go (dec_lt b n)
  where
    go : Dec (b < n) → P b (get_or (set xs n x) b nan)
    go (yes q) = subst (P b) (sym (get_or-set_other xs n b x nan (λ z. omega arith))) (old b q)
    go (no q) = let z : b ≡ n = omega arith in rw z (subst (P n) (sym (get_or-set_same xs n x nan l)) new)

pub ended-more : {n : ℕ} (start : ℕ) {table lows highs : List Float} {x y : Float} → start ≡ 1 + 64 * n → n < length lows → n < length highs
    → Ended n table lows highs → Least x start (start + 64) table → Greatest y start (start + 64) table → Ended (n + 1) table (set lows n x) (set highs n y)
ended-more {n} start {table} {lows} {highs} {x} {y} e l h w p q =
    let stop : start + 64 ≡ 65 + 64 * n = omega (arith, e) in
    record {
      low = one_more (λ b z. Least z (1 + 64 * b) (65 + 64 * b) table) n lows x l w.low (subst₂ (λ i j. Least x i j table) e stop p);
      high = one_more (λ b z. Greatest z (1 + 64 * b) (65 + 64 * b) table) n highs y h w.high (subst₂ (λ i j. Greatest y i j table) e stop q);
    }

pub ended-all : {n : ℕ} {table lows highs : List Float} → length table ≤ 1 + 64 * n → Ended n table lows highs → Ends table lows highs
ended-all l w = record { low = λ b h. w.low b (omega arith); high = λ b h. w.high b (omega arith) }
