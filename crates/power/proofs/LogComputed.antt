-- L2 of a positive normal number in a form that a test can compute: F by the guess and the test
-- that `log2` has and one division, where the definition tries every F. Assumes nothing.
use mathlib.Core.Path.{◌≡◌, sym, ap, ◌∙◌}
use Prim.Native.Nat.{ℕ, ◌+◌, ◌-◌, ◌*◌, ◌/◌, ◌^◌, ◌≤◌, ◌<◌}
use native.Mathlib.Nat.{div-lt_iff_lt-mul, lt_of_lt_of_le, le_of_eq}
use native.Mathlib.Omega.{arith}
use mir.Val.{bool_byte}
use lib.Dec.{T, leb}
use lib.Pow.{pow_pos, pow-add}
use lib.Ieee.{Float, size}
use lib.Ieee.Bits.{is_true}
use lib.Ieee.Digits.{size-lt}
use Rattle.power.specs.Table.{low_bits, P, I}
use Rattle.power.proofs.Rules.{P-rule}
use Rattle.power.specs.Log.{greatest, positive_normal, units_of, rounded, log_at, log_of, L2}
use Rattle.power.specs.Stages.{guess_of}
use Rattle.power.proofs.Division.{found-by-division}
use Rattle.power.proofs.Search.{step_is}
use Rattle.power.proofs.Guess.{guess-is, step_from}
use Rattle.power.proofs.Normal.{units-low}
use Rattle.power.proofs.LogRising.{size-high, M-low}

abbrev pub step_at : ℕ → ℕ
step_at t = let g = guess_of t in g + bool_byte (leb (P (g + 1)) t)

abbrev pub place_at : ℕ → ℕ → ℕ
place_at t h = h * 2 ^ low_bits + ((t - P h + 1) * 2 ^ low_bits - 1) / (P (h + 1) - P h)

place_is : (t : ℕ) → 2 ^ 30 ≤ t → t < 2 ^ 31 → place_at t (step_at t) ≡ greatest I t (2 ^ 24)
place_is t l u =
    let s = step_is t (step_at t) l u (step_from t (guess_of t) u (guess-is t l u)) in
    found-by-division P-rule t (step_at t) s.within s.from s.to

-- for M * 2 ^ k units
abbrev pub log_of_units : ℕ → Float
log_of_units units = let k = size units - 24 in let t = 128 * (units / 2 ^ k) in rounded (k * 2 ^ 24 + place_at t (step_at t))

M-high : (n : ℕ) → 24 ≤ size n → n / 2 ^ (size n - 24) < 2 ^ 24
M-high n h =
    (div-lt_iff_lt-mul (pow_pos (size n - 24))).1
    (lt_of_lt_of_le (size-lt n) (le_of_eq (ap (λ (k : ℕ). 2 ^ k) whole ∙ pow-add 2 24 (size n - 24))))
  where
    whole : size n ≡ 24 + (size n - 24)
    whole = omega arith

pub L2-computed : (v : Float) → T (positive_normal v) → L2 v ≡ log_of_units (units_of v)
unfolding L2 log_of log_at
L2-computed v t = rw (is_true (positive_normal v) t) (go (units_of v) (units-low v t))
  where
    go : (n : ℕ) → 2 ^ 23 ≤ n → log_at low_bits P n ≡ log_of_units n
    go n h =
        let l = M-low n h in
        let u = M-high n (size-high n h) in
        ap (λ (F : ℕ). rounded ((size n - 24) * 2 ^ 24 + F)) (sym (place_is (128 * (n / 2 ^ (size n - 24))) (omega arith) (omega arith)))
