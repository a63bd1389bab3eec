-- The compensation lies between 1 and 12 dB, for every setting of a finite depth: each sample is at
-- most 1, so their sum of n is at most n, which is exact; so the mean square and its root are at
-- most 1, and one over that is at least 1, or infinite. The product with the field's gain is
-- finite, not negative and at most 4. Assumes nothing.
use mathlib.Core.Path.{◌≡◌, refl, sym, ap, ◌∙◌, subst}
use mathlib.Core.Bool.{Bool, true, false, not, cond}
use Prim.Native.Nat.{ℕ, zero, suc, ◌+◌, ◌^◌, ◌≤◌, ◌<◌}
use native.Mathlib.Nat.{add-zero, le_of_eq, le_trans}
use native.Mathlib.Omega.{arith}
use lib.IntN.{pos}
use lib.Dec.{T, lit≤}
use lib.Count.{count_trailing_zeros}
use lib.Ieee.{Float, inf, Format, binary32, low, prec, fits, is_nan, lt, le, add, mul, div, round, size, span, climb, units, odd, of_bits, of_fields, of_int, unlike}
use lib.Ieee.Scale.{overflow}
use lib.Ieee.Positive.{positive}
use Rattle.lists.specs.Folds.{fold, range}
use Rattle.lists.specs.Interpolation.{interp}
use Rattle.float_laws.specs.Units.{mag, sign, number, real, keyed}
use Rattle.float_laws.specs.Order.{not-lt-f, smaller, smaller-number, smaller-right, smaller-greatest, le-antisymm-f, eq→same}
use Rattle.float_laws.specs.Round.{plus_zero, sign-round}
use Rattle.float_laws.specs.Ops.{mul-sign, div-sign, add-sum, sum-clear}
use Rattle.float_laws.specs.Mono.{add-number, add-mono, key-nonneg, sizes, div-number, div-anti, above_zero}
use Rattle.float_laws.specs.Inf.{le-top, div-by}
use Rattle.float_laws.specs.Bounds.{one, real-one, real-between, one-nonneg}
use Rattle.float_laws.specs.Power.{power, mag-power, real-power}
use Rattle.float_laws.specs.Exact.{real-whole, whole-add, whole-power}
use Rattle.float_laws.specs.Rise.{Upto, upto-mul}
use Rattle.float32.specs.Order.{minimum}
use Rattle.float32.specs.Remainder as remainder
use Rattle.square_root.specs.Root.{square_root_of}
use Rattle.float32.specs.Value.{moved}
use Rattle.float32.proofs.OrderAgrees.{minimum-smaller}
use Rattle.square_root.proofs.RootOrder.{root-number, root-keeps-plus, root-at-most-one}
use Rattle.power.specs.Table.{power_table}
use Rattle.power.specs.Power.{power_at, power_of, E2}
use Rattle.scene.specs.declared.MotionConfig.{MotionConfig}
use Rattle.decibels.specs.Gain.{gain_of}
use Rattle.motion.specs.Field.{resting_depth_db, motion_gain}
use Rattle.motion_compensation.specs.Compensation.{max_motion_compensation_db, sample_frequency, sample_power, mean_square, compensation}
use Rattle.motion.proofs.Between.{Between, between, wider}
use Rattle.motion.proofs.Openings.{product, zero-real, zero_number, one-is, one_number, one_same}
use Rattle.motion.proofs.Gains.{motion-gain-between, motion-gain-level}

-- ---- a sum of i samples: finite, with no minus sign, and at most i
abbrev whole : ℕ → Float
whole n = of_int binary32 (pos n)

record Sum (i : ℕ) (s : Float) : Type 0 where
  is_real : T (real binary32 s)
  plus : sign s ≡ false
  most : T (le s (whole i))

small : (i : ℕ) → i ≤ 256 → i ≤ 2 ^ prec binary32
small i h = le_trans h (lit≤ tt)

clear-nonneg : (f : Format) (x : Float) → T (number f x) → sign x ≡ false → T (le plus_zero x)
clear-nonneg f x n s = key-nonneg f x n (rw (ap (λ (b : Bool). keyed (overflow f) b (mag f x)) s) (omega arith))

whole-one : whole 1 ≡ one
whole-one = whole-power binary32 0 (lit≤ tt)

sum-next : (i : ℕ) (s q : Float) → i < 256 → Sum i s → Between plus_zero one q → sign q ≡ false → Sum (suc i) (add binary32 s q)
sum-next i s q h a b c =
    let w = whole i in
    let g = small i (omega arith) in
    let r = real-whole binary32 i g in
    let n = add-number binary32 s q a.is_real b.is_real in
    let e : add binary32 w one ≡ whole (suc i) = ap (add binary32 w) (sym whole-one) ∙ whole-add binary32 i 1 g (lit≤ tt) ∙ ap whole (omega arith) in
    let m : T (le (add binary32 s q) (whole (suc i))) = rw e at (add-mono binary32 s w q one a.is_real r b.is_real (real-one binary32) a.most b.high) in
    let p : sign (add binary32 s q) ≡ false = ap sign (add-sum binary32 s q a.is_real b.is_real ∙ sum-clear binary32 (sign s) (sign q) (mag binary32 s) (mag binary32 q) (2 ^ low binary32) a.plus c) ∙ sign-round binary32 false _ _ in
    record {
      is_real = real-between binary32 plus_zero (add binary32 s q) (whole (suc i)) n zero-real (real-whole binary32 (suc i) (small (suc i) h)) (clear-nonneg binary32 (add binary32 s q) n p) m;
      plus = p;
      most = m;
    }

-- ---- constants
record SamplesEnds : Type 0 where
  above : T (positive (whole 256))
  is_real : T (real binary32 (whole 256))
  some : 0 < mag binary32 (whole 256)
  plus : unlike false (sign (whole 256)) ≡ false
  once : div binary32 (whole 256) (whole 256) ≡ one

samples-ends : SamplesEnds
unfolding of_int round size span climb units odd count_trailing_zeros fits div mag
samples-ends = record { above = tt; is_real = tt; some = lit≤ tt; plus = refl; once = refl }

-- 12 dB
abbrev cap : Float
cap = gain_of max_motion_compensation_db

record CapEnds : Type 0 where
  is_real : T (real binary32 cap)
  is_number : T (number binary32 cap)
  least : T (le one cap)
  most : T (le cap (power 2))

cap-ends : CapEnds
unfolding of_bits of_fields odd count_trailing_zeros div mul round size span climb units fits le E2 power_of power_at moved interp power_table is_nan
cap-ends = record { is_real = tt; is_number = tt; least = tt; most = tt }

-- ---- one over a number from 0 to 1 with no minus sign is at least 1, or infinite
over_zero : div binary32 one plus_zero ≡ inf false
unfolding div
over_zero = refl

one-over-one : div binary32 one one ≡ one
unfolding div round size span climb units odd count_trailing_zeros
one-over-one = refl

over_root : (r : Float) → T (number binary32 r) → sign r ≡ false → T (le r one) → (T (number binary32 (div binary32 one r))) × T (le one (div binary32 one r))
over_root r n s h = go (lt plus_zero r) refl
  where
    q : T (real binary32 r)
    q = real-between binary32 plus_zero r one n zero-real (real-one binary32) (clear-nonneg binary32 r n s) h

    above : T (lt plus_zero r) → (T (number binary32 (div binary32 one r))) × T (le one (div binary32 one r))
    above l = (
      div-number binary32 one r (real-one binary32) q (above_zero binary32 r n l).1,
      rw (one-over-one) at (div-anti binary32 one r one (real-one binary32) q (real-one binary32) one-nonneg l h),
    )

    at_zero : r ≡ plus_zero → (T (number binary32 (div binary32 one r))) × T (le one (div binary32 one r))
    at_zero e = subst (λ z. (T (number binary32 (div binary32 one z))) × T (le one (div binary32 one z))) (sym e) (subst (λ z. (T (number binary32 z)) × T (le one z)) (sym over_zero) (tt, le-top binary32 one one_number))

    go : (b : Bool) → lt plus_zero r ≡ b → (T (number binary32 (div binary32 one r))) × T (le one (div binary32 one r))
    go true e = above (subst T (sym e) tt)
    go false e =
        at_zero
        (eq→same binary32 r plus_zero n zero_number s
        (le-antisymm-f binary32 r plus_zero n zero_number (not-lt-f binary32 plus_zero r zero_number n (subst (λ b. T (not b)) (sym e) tt)) (clear-nonneg binary32 r n s)))

unlike-same : (s : Bool) → unlike s s ≡ false
unlike-same true = refl
unlike-same false = refl

module _ (config : MotionConfig) (depth : T (real binary32 config.depth_db)) where
  sample-level : (k : ℕ) → Between plus_zero one (sample_power config k)
  unfolding sample_power
  sample-level k = let g = motion-gain-between (sample_frequency k) config depth in product g g

  sample-plus : (k : ℕ) → sign (sample_power config k) ≡ false
  unfolding sample_power
  sample-plus k =
      let g = motion_gain (sample_frequency k) config in
      let p = (motion-gain-between (sample_frequency k) config depth).is_real in
      mul-sign binary32 g g p p ∙ unlike-same (sign g)

  run : (i n : ℕ) (s : Float) → i + n ≤ 256 → Sum i s → Sum (i + n) (fold (λ sum index. add binary32 sum (sample_power config index)) s (range i n))
  unfolding fold range
  run i zero s h a = rw (add-zero i) a
  run i (suc n) s h a =
      let e : suc i + n ≡ i + suc n = omega arith in
      subst (λ m. Sum m (fold (λ sum index. add binary32 sum (sample_power config index)) (add binary32 s (sample_power config i)) (range (suc i) n))) e
      (run (suc i) n (add binary32 s (sample_power config i)) (omega arith) (sum-next i s (sample_power config i) (omega arith) a (sample-level i) (sample-plus i)))

  none : Sum 0 remainder.zero
  unfolding of_bits of_fields fits le of_int round size span climb units odd count_trailing_zeros
  none = record { is_real = tt; plus = refl; most = tt }

  all : Sum 256 (fold (λ sum index. add binary32 sum (sample_power config index)) remainder.zero (range 0 256))
  all = run 0 256 remainder.zero (lit≤ tt) none

  -- ---- the mean square, and one over its root
  mean-plus : (T (number binary32 (mean_square config))) × (sign (mean_square config) ≡ false)
  unfolding mean_square
  mean-plus =
      let e = samples-ends in
      let d = div-sign binary32 _ (whole 256) all.is_real e.is_real e.some in
      (div-number binary32 _ (whole 256) all.is_real e.is_real e.some, d ∙ ap (λ s. unlike s (sign (whole 256))) all.plus ∙ e.plus)

  mean-most : T (le (mean_square config) one)
  unfolding mean_square
  mean-most = rw samples-ends.once at (div-by binary32 (whole 256) samples-ends.above _ (whole 256) all.most)

  root-plus : (T (number binary32 (square_root_of binary32 (mean_square config)))) × (sign (square_root_of binary32 (mean_square config)) ≡ false)
  root-plus =
      let m = mean-plus in
      (root-number binary32 (mean_square config) m.0 (clear-nonneg binary32 (mean_square config) m.0 m.1), root-keeps-plus binary32 (mean_square config) m.0 m.1)

  root-most : T (le (square_root_of binary32 (mean_square config)) one)
  root-most = let m = mean-plus in root-at-most-one (mean_square config) m.0 (clear-nonneg binary32 (mean_square config) m.0 m.1) mean-most

  abbrev inverse : Float
  inverse = div binary32 one (square_root_of binary32 (mean_square config))

  inverse-least : (T (number binary32 inverse)) × T (le one inverse)
  inverse-least = over_root (square_root_of binary32 (mean_square config)) root-plus.0 root-plus.1 root-most

  -- ---- capped
  capped : Between one cap (minimum inverse cap)
  capped =
      let n = inverse-least.0 in
      let c = cap-ends.is_number in
      rw (minimum-smaller binary32 inverse cap n)
      (between one cap (smaller inverse cap) (smaller-number binary32 inverse cap n c) (real-one binary32) cap-ends.is_real
      (smaller-greatest binary32 inverse cap n c one one_number inverse-least.1 cap-ends.least) (smaller-right binary32 inverse cap n c))

  pub compensation-between : Between one (gain_of max_motion_compensation_db) (compensation config)
  unfolding compensation
  compensation-between = rw one-is (go (le config.depth_db resting_depth_db))
    where
      go : (b : Bool) → Between one cap (cond b one (minimum (div binary32 one (square_root_of binary32 (mean_square config))) cap))
      go true = between one cap one one_number (real-one binary32) cap-ends.is_real one_same cap-ends.least
      go false = capped

  pub compensation-upto : Upto binary32 2 (compensation config)
  compensation-upto =
      let b = wider plus_zero (power 2) zero-real (real-power binary32 2 (lit≤ tt)) one-nonneg cap-ends.most compensation-between in
      record { is_real = b.is_real; low = b.low; high = le_trans (sizes binary32 (compensation config) (power 2) b.is_real b.to b.low b.high).0 (le_of_eq (mag-power binary32 2)) }

  -- what the mask builder multiplies by
  pub compensated-gain-upto : (frequency : Float) → Upto binary32 2 (mul binary32 (motion_gain frequency config) (compensation config))
  compensated-gain-upto frequency = upto-mul binary32 0 2 (motion_gain frequency config) (compensation config) (lit≤ tt) (motion-gain-level frequency config depth) compensation-upto
