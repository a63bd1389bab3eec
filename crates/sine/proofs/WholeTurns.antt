-- U in document 01's own words, floor(u·2^24) mod 2^24, for every u: the 2 ^ 128 turns that the
-- definition adds are whole, so they do not count. The size of u is above u / below u. Assumes
-- nothing.
use mathlib.Core.Path.{◌≡◌, refl, ap, ◌∙◌}
use mathlib.Core.Bool.{Bool, true, false, not}
use Prim.Native.Nat.{ℕ, zero, suc, zero-le, ◌+◌, ◌-◌, ◌*◌, ◌/◌, ◌%◌, ◌^◌, ◌≤◌, ◌<◌}
use native.Mathlib.Nat.{le_trans, le_of_eq, le_of_lt, mul_right_comm, add-mul, mul-le-mul_right, mul-add-div_right, mul-add-mod_self_left, div-eq_of_lt, lt_of_mul-lt-mul_right, add-zero, mod-add-mod, mul-mod_right, zero-mul, suc-mul, le_of_suc-le-suc}
use native.Mathlib.Omega.{arith}
use lib.Dec.{T, ltb→lt, lit≤}
use lib.Ieee.{Float, nan, inf, fin, binary32, up, down, fits}
use lib.Ieee.Fits.{mul-fits, and_r}
use lib.Ieee.Scale.{finite}
use Rattle.float32.specs.Value.{above, below, negative, floor_at, moved}
use Rattle.float32.proofs.Floor.{below-pos}
use Rattle.sine.specs.Sine.{u, U, turns_per_radian}

-- ---- with C whole units added, for a size a / b
plus : (W j a b : ℕ) → 0 < b → (W * j * b + a) / b % W ≡ a / b % W
plus W j a b z = ap (λ (x : ℕ). x % W) (mul-add-div_right z (W * j) a) ∙ mul-add-mod_self_left W j (a / b)

floor-minus : (C n a b : ℕ) → 0 < b → n ≤ C → a ≤ n * b → n * b < a + b → (C * b - a) / b ≡ C - n
floor-minus C n a b z l h k =
    let e : C * b ≡ (C - n) * b + n * b = ap (λ (x : ℕ). x * b) (let s : C ≡ C - n + n = omega arith in s) ∙ add-mul (C - n) n b in
    let s : C * b - a ≡ (C - n) * b + (n * b - a) = omega arith in
    ap (λ (x : ℕ). x / b) s ∙ mul-add-div_right z (C - n) (n * b - a) ∙ ap (λ (x : ℕ). C - n + x) (div-eq_of_lt (omega arith)) ∙ add-zero (C - n)

minus : (W j n a b : ℕ) → 0 < b → n ≤ W * j → a ≤ n * b → n * b < a + b → ((W * j * b - a) / b % W + n) % W ≡ 0
minus W j n a b z l h k =
    ap (λ (x : ℕ). (x % W + n) % W) (floor-minus (W * j) n a b z l h k)
    ∙ mod-add-mod (W * j - n) W n
    ∙ ap (λ (x : ℕ). x % W) (let s : W * j - n + n ≡ W * j = omega arith in s)
    ∙ mul-mod_right W j

-- ---- no f32 is as large as 2 ^ 128
size_low : (x : Float) → T (fits binary32 x) → above x ≤ 2 ^ 128 * below x
unfolding fits
size_low nan h = lit≤ tt
size_low (inf s) h = lit≤ tt
size_low (fin s zero e) h = le_trans (le_of_eq (zero-mul (up e))) zero-le
size_low (fin s (suc m) e) h =
    le_of_lt (ltb→lt (suc m * up e) (2 ^ 128 * down e) (search and_r))

fewer : (n C a b : ℕ) → a ≤ C * b → n * b < a + b → n ≤ C
fewer n C a b h k = le_of_suc-le-suc (lt_of_mul-lt-mul_right b {m = n} {n = suc C} (rw (suc-mul C b) (omega arith)))

-- ---- U
module _ (θ : Float) where
  abbrev a : ℕ
  a = above (u θ) * 2 ^ 24

  abbrev b : ℕ
  b = below (u θ)

  -- of a u that is not negative
  pub place-of-positive : negative (u θ) ≡ false → U θ ≡ above (u θ) * 2 ^ 24 / below (u θ) % 2 ^ 24
  unfolding U moved
  place-of-positive s = ap (λ (t : Bool). floor_at t (2 ^ 152) a b % 16777216) s ∙ plus 16777216 (2 ^ 128) a b (below-pos (u θ))

  -- of a negative one: its floor is -n for the n with n - 1 < a / b ≤ n, and U and n together make
  -- whole turns
  pub place-of-negative : negative (u θ) ≡ true → (n : ℕ) → above (u θ) * 2 ^ 24 ≤ n * below (u θ) → n * below (u θ) < above (u θ) * 2 ^ 24 + below (u θ) → (U θ + n) % 2 ^ 24 ≡ 0
  unfolding U moved
  place-of-negative s n h k =
      ap (λ (t : Bool). (floor_at t (2 ^ 152) a b % 16777216 + n) % 16777216) s
      ∙ minus 16777216 (2 ^ 128) n a b (below-pos (u θ)) (fewer n (2 ^ 152) a b room k) h k
    where
      room : a ≤ 2 ^ 152 * b
      room = le_trans (mul-le-mul_right (2 ^ 24) (size_low (u θ) (mul-fits binary32 θ turns_per_radian))) (le_of_eq (mul_right_comm (2 ^ 128) b (2 ^ 24)))

-- of a u that is infinite or NaN
no_place : (x : Float) → T (not (finite x)) → moved (2 ^ 128) x % 2 ^ 24 ≡ 0
unfolding moved
no_place nan h = refl
no_place (inf true) h = refl
no_place (inf false) h = refl
no_place (fin s m e) h = absurd h

pub place-of-no-number : (θ : Float) → T (not (finite (u θ))) → U θ ≡ 0
unfolding U
place-of-no-number θ h = no_place (u θ) h
