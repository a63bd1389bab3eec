-- A table prepared at an accepted rate and size is accepted: no entry from 1 on is outside -2..17.
-- The frequency of a bin from 1 to size/2 lies between a quarter and 2 ^ 17. Assumes nothing.
use mathlib.Core.Path.{sym, subst}
use Prim.Native.Nat.{ℕ, ◌+◌, ◌/◌, ◌^◌, ◌≤◌, ◌<◌}
use native.Mathlib.Omega.{arith}
use lib.Dec.{T}
use lib.ListN.{get_or}
use lib.Ieee.{Float, nan, binary32, of_bits, fits, le}
use lib.Ieee.Fits.{and_i}
use Rattle.lists.specs.Maps.{tabulate, get_d_tabulate}
use Rattle.float32.specs.Order.{within}
use Rattle.float32.proofs.Limits.{within_low, within-high, within_real}
use Rattle.limits.specs.Limits as limits
use Rattle.limits.specs.Limits.{least_rate, most_rate, least_table_entry, most_table_entry}
use Rattle.float_laws.specs.Units.{real}
use Rattle.float_laws.specs.Bounds.{real-between}
use Rattle.frequencies.specs.Frequency.{bin_hertz, hertz, prepared}
use Rattle.limits.proofs.Sizes.{size-power}
use Rattle.frequencies.proofs.Entries.{quarter, top, hertz-number, hertz-least, hertz-most}
use Rattle.frequencies.proofs.Entries.{entry-least, entry-most}

-- a frequency that a bin may have
pub record BinHertz (x : Float) : Type 0 where
  pub is_real : T (real binary32 x)
  pub low : T (le quarter x)
  pub high : T (le x top)

module _ (rate : Float) (is-f32 : T (fits binary32 rate)) (size : ℕ) (r : T (limits.rate rate))
    (s : T (limits.size size)) where
  rate-real : T (real binary32 rate)
  unfolding of_bits fits
  rate-real = within_real least_rate most_rate rate r binary32 is-f32 tt tt

  rate-low : T (le least_rate rate)
  rate-low = within_low least_rate most_rate rate r

  rate-high : T (le rate most_rate)
  rate-high = within-high least_rate most_rate rate r

  -- what holds at each power of two from 64 to 16,384 holds at the size
  at-powers : (P : ℕ → Type 0) → ((k : ℕ) → 6 ≤ k → k ≤ 14 → P (2 ^ k)) → P size
  at-powers P each =
      let w = size-power size s in
      subst P (sym w.is) (each w.exponent w.from (omega (arith, w.below)))

  pub hertz-accepted : (bin : ℕ) → 1 ≤ bin → bin ≤ size / 2 → BinHertz (hertz (bin_hertz rate size) bin)
  unfolding of_bits fits
  hertz-accepted bin b1 =
      at-powers (λ n. bin ≤ n / 2 → BinHertz (hertz (bin_hertz rate n) bin)) (λ k from to half.
      let low = hertz-least rate rate-real rate-low rate-high k from to bin b1 half in
      let high = hertz-most rate rate-real rate-low rate-high k from to bin b1 half in
      record {
        is_real =
            real-between binary32 quarter (hertz (bin_hertz rate (2 ^ k)) bin) top
            (hertz-number rate rate-real rate-low rate-high k from to bin b1 half) tt tt low high;
        low = low;
        high = high;
      })

  pub entry-accepted :
      (bin : ℕ) → 1 ≤ bin → bin ≤ size / 2 → T (limits.table_entry (prepared rate size bin))
  unfolding within of_bits
  entry-accepted bin b1 =
      at-powers (λ n. bin ≤ n / 2 → T (limits.table_entry (prepared rate n bin))) (λ k from to half.
      and_i (le least_table_entry (prepared rate (2 ^ k) bin))
      (le (prepared rate (2 ^ k) bin) most_table_entry)
      (entry-least rate rate-real rate-low rate-high k from to bin b1 half)
      (entry-most rate rate-real rate-low rate-high k from to bin b1 half))

  pub table-accepted :
      (bin : ℕ) → 1 ≤ bin → bin < size / 2 + 1
      → T (limits.table_entry (get_or (tabulate (size / 2 + 1) (prepared rate size)) bin nan))
  table-accepted bin b1 b2 =
      subst (λ (x : Float). T (limits.table_entry x))
      (sym (get_d_tabulate (prepared rate size) (size / 2 + 1) bin nan b2))
      (entry-accepted bin b1 (omega arith))
