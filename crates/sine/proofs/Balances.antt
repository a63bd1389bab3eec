-- From sine and cosine to the two balances, over whole numbers in units of which L make 1. A
-- balance is n / 2 ^ 24 times the f32 √2, 11863283 / 2 ^ 23, rounded once to 24 digits:
-- that costs less than one part in 11863283. So where n and its partner are near the circle, the
-- squares of the two balances add to 2 within 2 ^ -14. Assumes nothing.
use mathlib.Core.Path.{◌≡◌, sym, ap, ◌∙◌}
use Prim.Native.Nat.{ℕ, ◌+◌, ◌-◌, ◌*◌, ◌^◌, ◌≤◌, ◌<◌}
use native.Mathlib.Nat.{le_trans, le_of_eq, mul-le-mul, mul-le-mul_right, mul-le-mul_left, le_of_mul-le-mul_right, mul_comm, mul_assoc, mul_left_comm, mul_right_comm, mul-pos, zero-mul, one-mul, add-mul, mul-add}
use native.Mathlib.Omega.{arith}
use lib.Dec.{lit<, lit≤}
use Rattle.float_laws.specs.Error.{Relative}
use Rattle.sine.proofs.Circle.{NearCircle}

-- ---- one balance: r units are n / 2 ^ 24 times √2, nearly
pub record TimesRoot (L n r : ℕ) : Type 0 where
  pub high : r * 2 ^ 47 ≤ 11863284 * (n * L)
  pub low : 11863282 * (n * L) ≤ r * 2 ^ 47

pub zero-times-root : (L n r : ℕ) → n ≡ 0 → r ≡ 0 → TimesRoot L n r
zero-times-root L n r e z = let k : n * L ≡ 0 = ap (λ (i : ℕ). i * L) e ∙ zero-mul L in record { high = omega arith; low = omega arith }

-- x units are n / 2 ^ 24 and y units are √2
module _ (L x y n r : ℕ) (positive : 0 < L) (hx : x * 2 ^ 24 ≡ n * L) (hy : y * 2 ^ 23 ≡ 11863283 * L) where
  exact : x * y * L * 140737488355328 ≡ 11863283 * (n * L * (L * L))
  exact =
      let e : x * 16777216 * (y * 8388608) * L ≡ n * L * (11863283 * L) * L = ap (λ (z : ℕ). z * (y * 8388608) * L) hx ∙ ap (λ (z : ℕ). n * L * z * L) hy in
      simp (mul_assoc, mul_comm, mul_left_comm) (omega (arith, simp (mul_assoc, mul_comm, mul_left_comm) at e))

  fewer : (a b : ℕ) → a * (r * (L * L)) ≤ b * (n * L * (L * L)) → r * a ≤ b * (n * L)
  fewer a b h =
      le_of_mul-le-mul_right {k = L * L} (le_trans (le_of_eq (simp (mul_assoc, mul_comm, mul_left_comm))) (le_trans h (le_of_eq (sym (mul_assoc b (n * L) (L * L))))))
      (mul-pos positive positive)

  more : (a b : ℕ) → b * (n * L * (L * L)) ≤ a * (r * (L * L)) → b * (n * L) ≤ r * a
  more a b h =
      le_of_mul-le-mul_right {k = L * L} (le_trans (le_of_eq (mul_assoc b (n * L) (L * L))) (le_trans h (le_of_eq (simp (mul_assoc, mul_comm, mul_left_comm)))))
      (mul-pos positive positive)

  pub times-root : Relative (2 ^ 23) (x * y * L) (L * L) r → TimesRoot L n r
  times-root w = record { high = fewer 140737488355328 11863284 (omega (arith, exact, w.hi)); low = more 140737488355328 11863282 (omega (arith, exact, w.lo)) }

  -- the product is large enough to have 24 digits
  pub product-normal : 2 ^ 47 ≤ L → 0 < n → 2 ^ 23 * (L * L) ≤ x * y * L
  product-normal big h =
      let m : L ≤ n * L = le_trans (le_of_eq (sym (one-mul L))) (mul-le-mul_right L h) in
      omega (arith, exact, mul-le-mul_right (L * L) (le_trans big m))

-- ---- the squares of both. The numbers are kept in variables, since `omega` takes none of more
-- than 38 digits
square-high : (B k r n L : ℕ) → r * B ≤ k * (n * L) → r * r * (B * B) ≤ k * k * (n * n * (L * L))
square-high B k r n L h = le_trans (le_of_eq (simp (mul_assoc, mul_left_comm))) (le_trans (mul-le-mul h h) (le_of_eq (simp (mul_assoc, mul_left_comm))))

square-low : (B k r n L : ℕ) → k * (n * L) ≤ r * B → k * k * (n * n * (L * L)) ≤ r * r * (B * B)
square-low B k r n L h = le_trans (le_of_eq (simp (mul_assoc, mul_left_comm))) (le_trans (mul-le-mul h h) (le_of_eq (simp (mul_assoc, mul_comm, mul_left_comm))))

module _ (B k L a b s c : ℕ) where
  squares-high : a * B ≤ k * (c * L) → b * B ≤ k * (s * L) → (a * a + b * b) * (B * B) ≤ k * k * ((s * s + c * c) * (L * L))
  squares-high h g =
      rw (add-mul (a * a) (b * b) (B * B), add-mul (s * s) (c * c) (L * L), mul-add (k * k) (s * s * (L * L)) (c * c * (L * L)))
      (omega (arith, square-high B k a c L h, square-high B k b s L g))

  squares-low : k * (c * L) ≤ a * B → k * (s * L) ≤ b * B → k * k * ((s * s + c * c) * (L * L)) ≤ (a * a + b * b) * (B * B)
  squares-low h g =
      rw (add-mul (a * a) (b * b) (B * B), add-mul (s * s) (c * c) (L * L), mul-add (k * k) (s * s * (L * L)) (c * c * (L * L)))
      (omega (arith, square-low B k a c L h, square-low B k b s L g))

module _ (G E K S M A : ℕ) (positive : 0 < E) where
  scaled-high : (H t : ℕ) → A * (G * E) ≤ K * (S * M) → S ≤ H → K * H ≤ t * E → G * A ≤ t * M
  scaled-high H t h l f =
      le_of_mul-le-mul_right {k = E}
      (le_trans (le_of_eq (simp (mul_assoc, mul_comm, mul_left_comm)))
      (le_trans h
      (le_trans (mul-le-mul_left K (mul-le-mul_right M l))
      (le_trans (le_of_eq (sym (mul_assoc K H M))) (le_trans (mul-le-mul_right M f) (le_of_eq (mul_right_comm t E M)))))))
      positive

  scaled-low : (H t : ℕ) → K * (S * M) ≤ A * (G * E) → H ≤ S → t * E ≤ K * H → t * M ≤ G * A
  scaled-low H t h l f =
      le_of_mul-le-mul_right {k = E}
      (le_trans (le_of_eq (mul_right_comm t M E))
      (le_trans (mul-le-mul_right M f)
      (le_trans (le_of_eq (mul_assoc K H M)) (le_trans (mul-le-mul_left K (mul-le-mul_right M l)) (le_trans h (le_of_eq (simp (mul_assoc, mul_comm, mul_left_comm))))))))
      positive

-- ---- the squares of a and b units add to 2 within 2 ^ -14
pub record AddToTwo (L a b : ℕ) : Type 0 where
  pub low : (2 ^ 15 - 1) * (L * L) ≤ 2 ^ 14 * (a * a + b * b)
  pub high : 2 ^ 14 * (a * a + b * b) ≤ (2 ^ 15 + 1) * (L * L)

pub balances-add-to-two : (L a b s c : ℕ) → NearCircle s c → TimesRoot L c a → TimesRoot L s b → AddToTwo L a b
balances-add-to-two L a b s c q ha hb =
    record {
      low =
          scaled-low (2 ^ 14) (2 ^ 80) (11863282 * 11863282) (s * s + c * c) (L * L) (a * a + b * b) (lit< tt) (2 ^ 48 - 2 ^ 32) (2 ^ 15 - 1)
          (squares-low (2 ^ 47) 11863282 L a b s c ha.low hb.low) (least q.low) (lit≤ tt);
      high =
          scaled-high (2 ^ 14) (2 ^ 80) (11863284 * 11863284) (s * s + c * c) (L * L) (a * a + b * b) (lit< tt) (2 ^ 48 + 2 ^ 21) (2 ^ 15 + 1)
          (squares-high (2 ^ 47) 11863284 L a b s c ha.high hb.high) q.high (lit≤ tt);
    }
  where
    least : 2 ^ 48 ≤ s * s + c * c + 2 ^ 32 → 2 ^ 48 - 2 ^ 32 ≤ s * s + c * c
    least h = omega arith
