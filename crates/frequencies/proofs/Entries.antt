-- A prepared table is accepted: for every accepted rate and size each entry from 1 on lies in
-- -2..17. The frequency of a bin from 1 to size/2 lies between a quarter of a hertz and 2 ^ 17, as
-- rounding keeps the order and the ends are computed for each of the nine sizes; so it is a
-- positive normal number, and L2, which never falls, is -2 and 17 at those ends. Assumes nothing.
use mathlib.Core.Path.{◌≡◌, refl, ap, ◌∙◌, subst}
use mathlib.Core.Bool.{Bool, true, false}
use Prim.Native.Nat.{ℕ, ◌+◌, ◌-◌, ◌*◌, ◌/◌, ◌^◌, ◌≤◌}
use native.Mathlib.Nat.{le_trans, mul-le-mul_right}
use native.Mathlib.Omega.{arith}
use borrow.Author.Tests.{ne_eqb}
use lib.Dec.{T, lit≤}
use lib.Count.{count_trailing_zeros}
use lib.IntN.{pos, negsuc}
use lib.Pow.{pow_mono}
use lib.Ieee.{Float, fin, Format, binary32, prec, low, div, mul, le, lt, of_int, fits, round, size, span, climb, units, odd}
use lib.Ieee.Fits.{and_i}
use lib.Ieee.Scale.{overflow}
use Rattle.float_laws.specs.Units.{mag, number, real, key, keyed, real-number, key→le}
use Rattle.float_laws.specs.Order.{le-trans-f, le-refl-f}
use Rattle.float_laws.specs.Round.{plus_zero}
use Rattle.float_laws.specs.Ops.{mul-comm-f}
use Rattle.float_laws.specs.Mono.{div_mono, div-number, above_zero, mul_mono, mul-number, key-nonneg}
use Rattle.float_laws.specs.Bounds as bounds
use Rattle.float_laws.specs.Bounds.{real-between, mul-one-f}
use Rattle.float_laws.specs.Exact.{mag-whole, sign-whole, real-whole}
use Rattle.lists.specs.Tested.{all_below, below_at}
use Rattle.power.specs.Log.{least_normal, positive_normal, rounded, L2}
use Rattle.power.specs.Power.{largest}
use Rattle.power.proofs.LogRange.{L2-of-power}
use Rattle.power.proofs.LogRising.{L2-mono}
use Rattle.frequencies.specs.Frequency.{bin_hertz, hertz, log2_hz, prepared}
use Rattle.frequencies.proofs.Spacing.{lowest_rate}

-- ---- whole numbers keep their order as floats
module _ (f : Format) where
  whole-key : (n : ℕ) → n ≤ 2 ^ prec f → key f (of_int f (pos n)) ≡ overflow f + n * 2 ^ low f
  whole-key n h = ap (λ (s : Bool). keyed (overflow f) s (mag f (of_int f (pos n)))) (sign-whole f n h) ∙ ap (λ (m : ℕ). overflow f + m) (mag-whole f n h)

  whole-mono : (m n : ℕ) → m ≤ n → n ≤ 2 ^ prec f → T (le (of_int f (pos m)) (of_int f (pos n)))
  whole-mono m n l h =
      let g = le_trans l h in
      key→le f (of_int f (pos m)) (of_int f (pos n)) (real-number f (of_int f (pos m)) (real-whole f m g)) (real-number f (of_int f (pos n)) (real-whole f n h))
      (let p = mul-le-mul_right (2 ^ low f) l in omega (arith, whole-key m g, whole-key n h))

whole-nonneg : (n : ℕ) → n ≤ 2 ^ 24 → T (le plus_zero (of_int binary32 (pos n)))
whole-nonneg n h = nonneg binary32 n h
  where
    nonneg : (f : Format) (n : ℕ) → n ≤ 2 ^ prec f → T (le plus_zero (of_int f (pos n)))
    nonneg f n h = key-nonneg f (of_int f (pos n)) (real-number f (of_int f (pos n)) (real-whole f n h)) (omega (arith, whole-key f n h))

-- ---- the ends, computed for each size
-- 192,000; a quarter; 2 ^ 17
abbrev pub highest_rate : Float
highest_rate = fin false 375 (pos 9)

abbrev pub quarter : Float
quarter = fin false 1 (negsuc 1)

abbrev pub top : Float
top = fin false 1 (pos 17)

abbrev whole : ℕ → Float
whole n = of_int binary32 (pos n)

at_each : (test : ℕ → Bool) → T (all_below 9 (λ j. test (6 + j))) → (k : ℕ) → 6 ≤ k → k ≤ 14 → T (test k)
at_each test t k l h = subst (λ (n : ℕ). T (test n)) (back k l) (below_at 9 (λ j. test (6 + j)) t (k - 6) (omega arith))
  where
    back : (k : ℕ) → 6 ≤ k → 6 + (k - 6) ≡ k
    back k l = omega arith

size_above : (k : ℕ) → 6 ≤ k → k ≤ 14 → T (lt plus_zero (whole (2 ^ k)))
unfolding lt of_int round size span climb units odd count_trailing_zeros
size_above = at_each (λ k. lt plus_zero (whole (2 ^ k))) tt

least-spacing : (k : ℕ) → 6 ≤ k → k ≤ 14 → T (le quarter (bin_hertz lowest_rate (2 ^ k)))
unfolding le div of_int round size span climb units odd count_trailing_zeros
least-spacing = at_each (λ k. le quarter (bin_hertz lowest_rate (2 ^ k))) tt

most-spacing-real : (k : ℕ) → 6 ≤ k → k ≤ 14 → T (real binary32 (bin_hertz highest_rate (2 ^ k)))
unfolding fits div of_int round size span climb units odd count_trailing_zeros
most-spacing-real = at_each (λ k. real binary32 (bin_hertz highest_rate (2 ^ k))) tt

most_hertz : (k : ℕ) → 6 ≤ k → k ≤ 14 → T (le (hertz (bin_hertz highest_rate (2 ^ k)) (2 ^ k / 2)) top)
unfolding le mul div of_int round size span climb units odd count_trailing_zeros
most_hertz = at_each (λ k. le (hertz (bin_hertz highest_rate (2 ^ k)) (2 ^ k / 2)) top) tt

-- ---- the logarithms of the ends: -2 and 17
abbrev pub minus_two : Float
minus_two = fin true 1 (pos 1)

abbrev pub seventeen : Float
seventeen = fin false 17 (pos 0)

L2-quarter : L2 quarter ≡ minus_two
unfolding rounded round size span climb units odd count_trailing_zeros
L2-quarter = L2-of-power quarter 124 (lit≤ tt) (refl, refl)

L2-top : L2 top ≡ seventeen
unfolding rounded round size span climb units odd count_trailing_zeros
L2-top = L2-of-power top 143 (lit≤ tt) (refl, refl)

one-is : whole 1 ≡ bounds.one
unfolding of_int round size span climb units odd count_trailing_zeros
one-is = refl

-- ---- a bin's frequency, at an accepted rate and size
module _ (rate : Float) (p : T (real binary32 rate)) (l : T (le lowest_rate rate)) (u : T (le rate highest_rate)) (k : ℕ) (k6 : 6 ≤ k) (k14 : k ≤ 14) where
  abbrev spacing : Float
  spacing = bin_hertz rate (2 ^ k)

  above : T (lt plus_zero (whole (2 ^ k)))
  above = size_above k k6 k14

  size-real : T (real binary32 (whole (2 ^ k)))
  size-real = real-whole binary32 (2 ^ k) (pow_mono {i = k} {j = 24} (omega arith))

  quotient-number : (x : Float) → T (real binary32 x) → T (number binary32 (bin_hertz x (2 ^ k)))
  quotient-number x q = div-number binary32 x (whole (2 ^ k)) q size-real (above_zero binary32 (whole (2 ^ k)) (real-number binary32 (whole (2 ^ k)) size-real) above).1

  spacing-least : T (le quarter spacing)
  unfolding fits
  spacing-least =
      le-trans-f binary32 quarter (bin_hertz lowest_rate (2 ^ k)) spacing tt (quotient-number lowest_rate tt) (quotient-number rate p) (least-spacing k k6 k14)
      (div_mono binary32 lowest_rate rate (whole (2 ^ k)) tt p size-real above l)

  spacing-most : T (le spacing (bin_hertz highest_rate (2 ^ k)))
  unfolding fits
  spacing-most = div_mono binary32 rate highest_rate (whole (2 ^ k)) p tt size-real above u

  spacing-real : T (real binary32 spacing)
  unfolding fits
  spacing-real = real-between binary32 quarter spacing (bin_hertz highest_rate (2 ^ k)) (quotient-number rate p) tt (most-spacing-real k k6 k14) spacing-least spacing-most

  spacing-nonneg : T (le plus_zero spacing)
  unfolding fits le
  spacing-nonneg = le-trans-f binary32 plus_zero quarter spacing tt tt (quotient-number rate p) tt spacing-least

  half-small : 2 ^ k / 2 ≤ 2 ^ 24
  half-small = let h = pow_mono {i = k} {j = 24} (omega arith) in omega arith

  module _ (bin : ℕ) (b1 : 1 ≤ bin) (b2 : bin ≤ 2 ^ k / 2) where
    bin-real : T (real binary32 (whole bin))
    bin-real = real-whole binary32 bin (le_trans b2 half-small)

    pub hertz-number : T (number binary32 (hertz spacing bin))
    hertz-number = mul-number binary32 (whole bin) spacing bin-real spacing-real

    hertz-one : hertz spacing 1 ≡ spacing
    hertz-one = ap (λ (x : Float). mul binary32 x spacing) one-is ∙ mul-comm-f binary32 bounds.one spacing ∙ mul-one-f binary32 spacing spacing-real

    pub hertz-least : T (le quarter (hertz spacing bin))
    unfolding fits
    hertz-least =
        let one-real = real-whole binary32 1 (lit≤ tt) in
        le-trans-f binary32 quarter spacing (hertz spacing bin) tt (quotient-number rate p) hertz-number spacing-least
        (subst (λ (x : Float). T (le x (hertz spacing bin))) hertz-one
        (mul_mono binary32 (whole 1) (whole bin) spacing spacing one-real bin-real spacing-real spacing-real (whole-nonneg 1 (lit≤ tt)) spacing-nonneg
        (whole-mono binary32 1 bin b1 (le_trans b2 half-small)) (le-refl-f binary32 spacing (quotient-number rate p))))

    pub hertz-most : T (le (hertz spacing bin) top)
    unfolding fits
    hertz-most =
        let half = 2 ^ k / 2 in
        let most = bin_hertz highest_rate (2 ^ k) in
        let half-real = real-whole binary32 half half-small in
        let most-real = most-spacing-real k k6 k14 in
        le-trans-f binary32 (hertz spacing bin) (hertz most half) top hertz-number (mul-number binary32 (whole half) most half-real most-real) tt
        (mul_mono binary32 (whole bin) (whole half) spacing most bin-real half-real spacing-real most-real (whole-nonneg bin (le_trans b2 half-small)) spacing-nonneg
        (whole-mono binary32 bin half b2 half-small) spacing-most)
        (most_hertz k k6 k14)

    -- so L2 is on the domain that document 01 gives it
    pub hertz-normal : T (positive_normal (hertz spacing bin))
    unfolding fits le
    hertz-normal =
        and_i (le least_normal (hertz spacing bin)) (le (hertz spacing bin) largest)
        (le-trans-f binary32 least_normal quarter (hertz spacing bin) tt tt hertz-number tt hertz-least)
        (le-trans-f binary32 (hertz spacing bin) top largest hertz-number tt tt hertz-most tt)

    log_is : prepared rate (2 ^ k) bin ≡ L2 (hertz spacing bin)
    unfolding log2_hz
    log_is = rw (ne_eqb bin 0 (λ (z : bin ≡ 0). omega arith))

    pub entry-least : T (le minus_two (prepared rate (2 ^ k) bin))
    unfolding le
    entry-least = rw log_is (rw L2-quarter at (L2-mono quarter (hertz spacing bin) tt hertz-normal hertz-least))

    pub entry-most : T (le (prepared rate (2 ^ k) bin) seventeen)
    unfolding le
    entry-most = rw log_is (rw L2-top at (L2-mono (hertz spacing bin) top hertz-normal tt hertz-most))
