-- floor((x + c) * 2 ^ 24) never falls as the finite x rises: over one common denominator the two
-- fractions stand in the order of the floats. Equal fractions have equal floors. Assumes nothing.
use Rattle.std.proofs.Common.{◌≡◌, ℕ, ◌+◌, ◌-◌, ◌*◌, ◌^◌, ◌<◌, ◌≤◌, Bool, true, false, T, ℤ, sym, ap, ◌∙◌, mul-le-mul_right, mul_assoc, mul_comm, add-mul, zero-mul, mul_right_comm, arith, lit<}
use lib.Ieee.{Float, nan, inf, fin, up, down, le}
use lib.Ieee.Fits.{down_pos}
use lib.Ieee.Nearest.{div_mono, div_same}
use Rattle.float_laws.specs.Signs.{Ord, sub-mul, ord-of-le}
use Rattle.float32.specs.Value.{below, floor_at, moved}

-- C + a * B / b and C + a' * B / b', and the differences, both over the denominator b * b'
module _ (C B a b a' b' : ℕ) where
  left+ : (C * b + a * B) * b' ≡ C * (b * b') + a * b' * B
  left+ = add-mul (C * b) (a * B) b' ∙ simp (mul_assoc, mul_comm B b')

  left- : (C * b - a * B) * b' ≡ C * (b * b') - a * b' * B
  left- = sub-mul (C * b) (a * B) b' ∙ simp (mul_assoc, mul_comm B b')

  right+ : (C * b' + a' * B) * b ≡ C * (b * b') + a' * b * B
  right+ = add-mul (C * b') (a' * B) b ∙ simp (mul_assoc, mul_comm B b, mul_comm b' b)

  right- : (C * b' - a' * B) * b ≡ C * (b * b') - a' * b * B
  right- = sub-mul (C * b') (a' * B) b ∙ simp (mul_assoc, mul_comm B b, mul_comm b' b)

floor_at-mono : (s t : Bool) (C B a b a' b' : ℕ) → 0 < b → 0 < b' → Ord s (a * b') t (a' * b) → floor_at s C (a * B) b ≤ floor_at t C (a' * B) b'
floor_at-mono false false C B a b a' b' z z' h =
    div_mono (C * b + a * B) b (C * b' + a' * B) b' z z' (rw (left+ C B a b a' b', right+ C B a b a' b') (let g = mul-le-mul_right B h in omega arith))
floor_at-mono false true C B a b a' b' z z' h =
    div_mono (C * b + a * B) b (C * b' - a' * B) b' z z' (rw (left+ C B a b a' b', right- C B a b a' b', h.0, h.1, zero-mul B) (omega arith))
floor_at-mono true false C B a b a' b' z z' h =
    div_mono (C * b - a * B) b (C * b' + a' * B) b' z z' (rw (left- C B a b a' b', right+ C B a b a' b') (omega arith))
floor_at-mono true true C B a b a' b' z z' h =
    div_mono (C * b - a * B) b (C * b' - a' * B) b' z z' (rw (left- C B a b a' b', right- C B a b a' b') (let g = mul-le-mul_right B h in omega arith))

pub moved-mono : (c : ℕ) (s : Bool) (m : ℕ) (e : ℤ) (t : Bool) (n : ℕ) (d : ℤ) → T (le (fin s m e) (fin t n d)) → moved c (fin s m e) ≤ moved c (fin t n d)
unfolding moved
moved-mono c s m e t n d h = floor_at-mono s t (c * 2 ^ 24) (2 ^ 24) (m * up e) (down e) (n * up d) (down d) (down_pos e) (down_pos d) (ord-of-le s m e t n d h)

pub below-pos : (x : Float) → 0 < below x
below-pos nan = lit< tt
below-pos (inf s) = lit< tt
below-pos (fin s m e) = down_pos e

-- ---- equal fractions
pub floor_at-same : (s : Bool) (C a b a' b' : ℕ) → 0 < b → 0 < b' → a * b' ≡ a' * b → floor_at s C a b ≡ floor_at s C a' b'
floor_at-same false C a b a' b' z z' e =
    div_same (C * b + a) b (C * b' + a') b' z z' (add-mul (C * b) a b' ∙ ap (λ (x : ℕ). C * b * b' + x) e ∙ ap (λ (x : ℕ). x + a' * b) (mul_right_comm C b b') ∙ sym (add-mul (C * b') a' b))
floor_at-same true C a b a' b' z z' e =
    div_same (C * b - a) b (C * b' - a') b' z z' (sub-mul (C * b) a b' ∙ ap (λ (x : ℕ). C * b * b' - x) e ∙ ap (λ (x : ℕ). x - a' * b) (mul_right_comm C b b') ∙ sym (sub-mul (C * b') a' b))
