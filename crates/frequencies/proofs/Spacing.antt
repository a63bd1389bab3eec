-- The bin spacing is exact: in units of the smallest f32 a rate of 8,000 or more is divisible by a
-- power of two up to 2 ^ 14, and the quotient is an f32. Assumes nothing.
use mathlib.Core.Path.{◌≡◌, sym, ap, ◌∙◌}
use mathlib.Core.Bool.{false}
use Prim.Native.Nat.{ℕ, ◌+◌, ◌*◌, ◌^◌, ◌≤◌}
use native.Mathlib.Nat.{le_trans, le_of_eq, lt_of_le_of_lt, mul-one, mul-le-mul_left, mul-le-mul_right}
use native.Mathlib.Omega.{arith}
use lib.Dec.{T, lit≤}
use lib.IntN.{pos}
use lib.Pow.{pow_pos, pow_mono}
use lib.Ieee.{Float, fin, binary32, div, le, fits}
use Rattle.float_laws.specs.Units.{mag, real, mag-below}
use Rattle.float_laws.specs.Round.{held-real}
use Rattle.float_laws.specs.Mono.{sizes}
use Rattle.float_laws.specs.Power.{real-power}
use Rattle.float_laws.specs.Exact.{held-multiple, div-two, whole-power}
use Rattle.frequencies.specs.Frequency.{bin_hertz}

-- 8,000
abbrev pub lowest_rate : Float
lowest_rate = fin false 125 (pos 6)

pub bin-hz-exact : (rate : Float) (k : ℕ) → T (real binary32 rate) → T (le lowest_rate rate) → k ≤ 14 → mag binary32 (bin_hertz rate (2 ^ k)) * 2 ^ k ≡ mag binary32 rate
unfolding fits le mag
bin-hz-exact rate k p h l =
    let f = binary32 in
    let m = mag f rate in
    let least : mag f lowest_rate ≤ m = (sizes f lowest_rate rate tt p tt h).0 in
    let many : 2 ^ (24 + k) ≤ m * 2 = le_trans (pow_mono {i = 24 + k} {j = 38} (omega arith)) (le_trans (lit≤ {m = 2 ^ 38} {n = 8000 * 2 ^ 149 * 2} tt) (mul-le-mul_right 2 least)) in
    let w = held-multiple f m k (held-real f rate p) many in
    let q = w.0 in
    let e : m ≡ q * 2 ^ k = w.1 in
    let small : q ≤ m = le_trans (le_of_eq (sym (mul-one q))) (le_trans (mul-le-mul_left q (pow_pos k)) (le_of_eq (sym e))) in
    let r = div-two f rate (pos k) q p (real-power f k (omega arith)) (lt_of_le_of_lt small (mag-below f rate p)) (sym e ∙ sym (mul-one m)) in
    ap (λ (x : Float). mag f (div f rate x) * 2 ^ k) (whole-power f k (omega arith)) ∙ ap (λ (n : ℕ). n * 2 ^ k) r ∙ sym e
