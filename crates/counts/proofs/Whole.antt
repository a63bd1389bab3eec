-- A fraction rounded to a whole number, down or up: which whole number it is, that equal fractions
-- give equal ones, that larger fractions give no smaller ones, and that for digits below 2 ^ 31 a
-- shift by 31 bits gives what a longer one does. Each holds because the whole number is the
-- greatest not above, or the least not below. Assumes nothing.
use mathlib.Core.Path.{◌≡◌, sym, ap, ◌∙◌}
use mathlib.Core.Logic.{inl, inr}
use mathlib.Core.Bool.{Bool, true, false}
use Prim.Native.Nat.{ℕ, zero, suc, ◌+◌, ◌-◌, ◌*◌, ◌/◌, ◌%◌, ◌^◌, ◌≤◌, ◌<◌, min}
use native.Mathlib.Nat.{le_trans, le_of_eq, le_of_lt, le_antisymm, lt_of_lt_of_le, min-eq_left, min-eq_right, mul_right_comm, mul-le-mul_left, mul-le-mul_right, le_of_mul-le-mul_right, div-eq_of_lt, div-mul-le_self, div-lt_iff_lt-mul, mod-eq_of_lt, suc-mul}
use native.Mathlib.Omega.{arith}
use lib.Pow.{pow_mono}
use lib.Ieee.Nearest.{div_mono}
use Rattle.lists.specs.Interpolation.{here_or_on}
use Rattle.counts.specs.Counts.{whole}

-- ---- down: whole ≤ a / b < whole + 1
pub floor-at-most : (a b : ℕ) → whole false a b * b ≤ a
floor-at-most a b = div-mul-le_self a b

pub floor-next : (a b : ℕ) → 0 < b → a < suc (whole false a b) * b
floor-next a b z = (div-lt_iff_lt-mul z).0 (omega arith)

-- ---- up: whole - 1 < a / b ≤ whole
pub ceil-at-least : (a b : ℕ) → 0 < b → a ≤ whole true a b * b
ceil-at-least a b z = let q = (a + (b - 1)) / b in let e = suc-mul q b in let h : a + (b - 1) < suc q * b = floor-next (a + (b - 1)) b z in omega arith

-- no whole number below it is as large as a / b
pub ceil-least : (a b n : ℕ) → 0 < b → a ≤ n * b → whole true a b ≤ n
ceil-least a b n z h = let e = suc-mul n b in let l : whole true a b < suc n = (div-lt_iff_lt-mul z).1 (omega arith) in omega arith

-- ---- the order of fractions
pub whole-mono : (up : Bool) (a b c d : ℕ) → 0 < b → 0 < d → a * d ≤ c * b → whole up a b ≤ whole up c d
whole-mono false a b c d z y h = div_mono a b c d z y h
whole-mono true a b c d z y h =
    ceil-least a b (whole true c d) z
    (le_of_mul-le-mul_right (le_trans h (le_trans (mul-le-mul_right b (ceil-at-least c d y)) (le_of_eq (mul_right_comm (whole true c d) d b)))) y)

pub whole_same : (up : Bool) (a b c d : ℕ) → 0 < b → 0 < d → a * d ≡ c * b → whole up a b ≡ whole up c d
whole_same up a b c d z y e = le_antisymm (whole-mono up a b c d z y (le_of_eq e)) (whole-mono up c d a b y z (le_of_eq (sym e)))

pub floor-ceil : (a b : ℕ) → 0 < b → whole false a b ≤ whole true a b
floor-ceil a b z = le_of_mul-le-mul_right (le_trans (floor-at-most a b) (ceil-at-least a b z)) z

pub ceil-floor : (a b : ℕ) → 0 < b → whole true a b ≤ suc (whole false a b)
ceil-floor a b z = ceil-least a b (suc (whole false a b)) z (le_of_lt (floor-next a b z))

-- ---- of a whole number, and of one divided
pub whole-one : (up : Bool) (n : ℕ) → whole up n 1 ≡ n
whole-one false n = omega arith
whole-one true n = omega arith

pub whole_le : (up : Bool) (n w : ℕ) → 0 < w → whole up n w ≤ n
whole_le up n w z = le_trans (whole-mono up n w n 1 z (omega arith) (mul-le-mul_left n z)) (le_of_eq (whole-one up n))

-- ---- digits that are all below the binary point
small : Bool → ℕ → ℕ
small false n = 0
small true zero = 0
small true (suc n) = 1

whole-small : (up : Bool) (n w : ℕ) → n < w → whole up n w ≡ small up n
unfolding small
whole-small false n w h = div-eq_of_lt h
whole-small true zero w h = div-eq_of_lt (omega arith)
whole-small true (suc n) w h =
    le_antisymm (ceil-least (suc n) w 1 (omega arith) (let e = suc-mul 0 w in omega arith)) (go (whole true (suc n) w) (ceil-at-least (suc n) w (omega arith)))
  where
    go : (q : ℕ) → suc n ≤ q * w → 1 ≤ q
    go zero h = absurd (omega arith)
    go (suc q) h = omega arith

pub whole-capped : (up : Bool) (n places : ℕ) → n < 2147483648 → whole up n (2 ^ min places 31) ≡ whole up n (2 ^ places)
whole-capped up n k h =
    elim (here_or_on k 31) [
      | inl l ↦ ap (λ (t : ℕ). whole up n (2 ^ t)) (min-eq_left (le_of_lt l))
      | inr l ↦ ap (λ (t : ℕ). whole up n (2 ^ t)) (min-eq_right l) ∙ whole-small up n 2147483648 h ∙ sym (whole-small up n (2 ^ k) (lt_of_lt_of_le h (pow_mono l)))
    ]

-- the bits that a shift drops, all set
pub one_shifted : (places : ℕ) → places ≤ 31 → (1 * 2 ^ places % 18446744073709551616 ≡ 2 ^ places) × (2 ^ places ≤ 2147483648)
one_shifted k h =
    let w : 2 ^ k ≤ 2147483648 = pow_mono {i = k} {j = 31} h in
    let e : 1 * 2 ^ k ≡ 2 ^ k = omega arith in
    (ap (λ (z : ℕ). z % 18446744073709551616) e ∙ mod-eq_of_lt (omega arith), w)
