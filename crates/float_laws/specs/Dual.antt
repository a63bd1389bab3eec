-- The dual window's bound, over whole numbers. A value's size is m, in units of which L make 1.
-- Assumes nothing.
use Rattle.std.specs.Prelude.{◌≡◌, ℕ, suc, ◌+◌, ◌*◌, ◌^◌, ◌≤◌, ◌<◌, length}
use Rattle.std.proofs.Common.{ap, ◌∙◌, subst, mul_assoc, mul_left_comm, mul-pos, le_trans, mul-le-mul_right, mul-le-mul_left, add-zero, zero-add, eq-zero-or-pos, inl, inr}
use mathlib.Core.List.{List, [], ◌∷◌}
use Rattle.std.proofs.Math.Nat.{zero-mul, mul_comm, add-mul, mul-le-mul, suc-mul}
use native.Mathlib.Omega.{arith}
use Rattle.lists.specs.Totals.{total, All}
use Rattle.float_laws.specs.Near.{B, Near, near-refl, near-sym, near-weaken, near_add, near-trans, near-scale, near-unscale, near_of, times}

-- ---- a sum that is rounded at each step, from the left
-- d is the sum so far. `up` is the rounded sum.
abbrev pub rolled : (ℕ → ℕ → ℕ) → (ℕ → ℕ) → ℕ → List ℕ → ℕ
rolled up g d [] = d
rolled up g d (x ∷ xs) = rolled up g (up d (g x)) xs

-- each of its roundings is by at most one part in 2 ^ 24
abbrev pub Steps : (ℕ → ℕ → ℕ) → (ℕ → ℕ) → ℕ → List ℕ → Type 0
Steps up g d [] = Unit
Steps up g d (x ∷ xs) = Near 1 (up d (g x)) (d + g x) × Steps up g (up d (g x)) xs

rolled-near : (up : ℕ → ℕ → ℕ) (g : ℕ → ℕ) (k d e : ℕ) (xs : List ℕ) → k + length xs ≤ B → Near k d e → Steps up g d xs
    → Near (k + length xs) (rolled up g d xs) (e + total g xs)
unfolding total
rolled-near up g k d e [] h n s = rw (add-zero k, add-zero e) n
rolled-near up g k d e (x ∷ xs) h n s =
    let a : 1 + k ≤ B = omega arith in
    let b : 1 + k + length xs ≤ B = omega arith in
    let c = near-trans 1 k a s.0 (near_add n (near-refl k (g x))) in
    let i : 1 + k + length xs ≡ k + suc (length xs) = omega arith in
    let j : e + g x + total g xs ≡ e + (g x + total g xs) = omega arith in
    subst (λ (z : ℕ). Near (k + suc (length xs)) (rolled up g (up d (g x)) xs) z) j
    (subst (λ (z : ℕ). Near z (rolled up g (up d (g x)) xs) (e + g x + total g xs)) i
    (rolled-near up g (1 + k) (up d (g x)) (e + g x) xs b c s.1))

pub sum_near : (up : ℕ → ℕ → ℕ) (g : ℕ → ℕ) (xs : List ℕ) → length xs ≤ 16 → Steps up g 0 xs → Near 16 (rolled up g 0 xs) (total g xs)
sum_near up g xs h s =
    let b : 0 + length xs ≤ B = omega arith in
    near-weaken (omega arith) (simp zero-add at (rolled-near up g 0 0 0 xs b (near-refl 0 0) s))

-- ---- squares: q m is the rounded square, within one part of it and half a unit
pub record Sq (L : ℕ) (q : ℕ → ℕ) (m : ℕ) : Type 0 where
  pub hi : B * (q m * L) ≤ 16777217 * (m * m) + 8388608 * L
  pub lo : 16777215 * (m * m) ≤ B * (q m * L) + 8388608 * L

abbrev pub sq : ℕ → ℕ
sq m = m * m

squares-hi : (L : ℕ) (q : ℕ → ℕ) (xs : List ℕ) → All (Sq L q) xs → B * (total q xs * L) ≤ 16777217 * total sq xs + 8388608 * (length xs * L)
unfolding total
squares-hi L q [] h = omega (arith, zero-mul L)
squares-hi L q (x ∷ xs) h = omega (arith, squares-hi L q xs h.1, h.0.hi, add-mul (q x) (total q xs) L, suc-mul (length xs) L)

squares-lo : (L : ℕ) (q : ℕ → ℕ) (xs : List ℕ) → All (Sq L q) xs → 16777215 * total sq xs ≤ B * (total q xs * L) + 8388608 * (length xs * L)
unfolding total
squares-lo L q [] h = omega (arith, zero-mul L)
squares-lo L q (x ∷ xs) h = omega (arith, squares-lo L q xs h.1, h.0.lo, add-mul (q x) (total q xs) L, suc-mul (length xs) L)

-- 16 half units are less than a part of a sum of squares that is 2 ^ -30 at least
tiny : (L S n : ℕ) → 2 ^ 57 ≤ L → L * L ≤ 2 ^ 30 * S → n ≤ 16 → 8388608 * (n * L) ≤ S
tiny L S n h k l =
    let a : 2 ^ 57 * L ≤ L * L = mul-le-mul_right L h in
    let b : n * L ≤ 16 * L = mul-le-mul_right L l in
    omega arith

pub squares-near : (L : ℕ) (q : ℕ → ℕ) (xs : List ℕ) → 2 ^ 57 ≤ L → L * L ≤ 2 ^ 30 * total sq xs → length xs ≤ 16 → All (Sq L q) xs
    → Near 2 (total q xs * L) (total sq xs)
squares-near L q xs h k l a =
    let S = total sq xs in
    let t = tiny L S (length xs) h k l in
    near_of 2 (total q xs * L) S (S + S) (S + S) (omega (arith, squares-hi L q xs a)) (omega (arith, squares-lo L q xs a)) (omega arith) (omega arith)

-- ---- the quotients: of an item m is the value's size, D the divisor's and t the rounded
-- quotient's
pub record Item : Type 0 where
  pub m : ℕ
  pub D : ℕ
  pub t : ℕ

pub record Good (L Q : ℕ) (i : Item) : Type 0 where
  pub hi : B * (i.t * i.D) ≤ 16777217 * (i.m * L) + 8388608 * i.D
  pub lo : 16777215 * (i.m * L) ≤ B * (i.t * i.D) + 8388608 * i.D
  pub near : Near 16 i.D Q
  pub small : i.m ≤ 16 * L

abbrev pub prod : Item → ℕ
prod i = i.m * i.t

abbrev pub square : Item → ℕ
square i = i.m * i.m

abbrev back : Item → ℕ
back i = prod i * i.D

abbrev cross : Item → ℕ
cross i = i.m * i.D

times-hi : (m D t L : ℕ) → B * (t * D) ≤ 16777217 * (m * L) + 8388608 * D → B * (m * t * D) ≤ 16777217 * (m * m * L) + 8388608 * (m * D)
times-hi m D t L h = rw (mul_assoc m t D, mul_assoc m m L) (times m B 16777217 8388608 (t * D) (m * L) D h)

times-lo : (m D t L : ℕ) → 16777215 * (m * L) ≤ B * (t * D) + 8388608 * D → 16777215 * (m * m * L) ≤ B * (m * t * D) + 8388608 * (m * D)
times-lo m D t L h = rw (mul_assoc m t D, mul_assoc m m L) (times m 16777215 B 8388608 (m * L) (t * D) D h)

nothing : (S X Z : ℕ) → B * S ≤ B * X + 2 * S → X ≡ 0 → Z ≤ 2 ^ 30 * S → 0 < Z → ⊥
nothing S X Z a b c d = omega arith

module _ (L Q : ℕ) where
  back-hi : (xs : List Item) → All (Good L Q) xs → B * total back xs ≤ 16777217 * (total square xs * L) + 8388608 * total cross xs
  unfolding total
  back-hi [] h = omega (arith, zero-mul L)
  back-hi (x ∷ xs) h = omega (arith, back-hi xs h.1, times-hi x.m x.D x.t L h.0.hi, add-mul (square x) (total square xs) L)

  back-lo : (xs : List Item) → All (Good L Q) xs → 16777215 * (total square xs * L) ≤ B * total back xs + 8388608 * total cross xs
  unfolding total
  back-lo [] h = omega (arith, zero-mul L)
  back-lo (x ∷ xs) h = omega (arith, back-lo xs h.1, times-lo x.m x.D x.t L h.0.lo, add-mul (square x) (total square xs) L)

  -- the divisors are one number, up to 16 parts
  back-near : (xs : List Item) → All (Good L Q) xs → Near 16 (total back xs) (total prod xs * Q)
  unfolding total
  back-near [] h = rw zero-mul (near-refl 16 0)
  back-near (x ∷ xs) h = rw add-mul (near_add (near-scale (prod x) h.0.near) (back-near xs h.1))

  cross-le : (xs : List Item) → All (Good L Q) xs → total cross xs ≤ length xs * (32 * (Q * L))
  unfolding total
  cross-le [] h = omega arith
  cross-le (x ∷ xs) h =
      let n = h.0.near in
      let a : x.D ≤ 2 * Q = omega (arith, n.over) in
      let b : x.m * x.D ≤ 16 * L * (2 * Q) = mul-le-mul h.0.small a in
      let c : 16 * L * (2 * Q) ≡ 32 * (Q * L) = simp (mul_assoc, mul_comm, mul_left_comm) (omega arith) in
      omega (arith, cross-le xs h.1, suc-mul (length xs) (32 * (Q * L)))

  -- so the products' sum is 1, up to 20 parts in 2 ^ 24
  module _ (xs : List Item) (good : All (Good L Q) xs) (few : length xs ≤ 16) (big : 2 ^ 57 ≤ L) (enough : L * L ≤ 2 ^ 30 * total square xs)
      (squares : Near 2 (Q * L) (total square xs)) where
    cross-small : 8388608 * total cross xs ≤ total square xs * L
    cross-small =
        let S = total square xs in
        let a : length xs * (32 * (Q * L)) ≤ 16 * (32 * (Q * L)) = mul-le-mul_right (32 * (Q * L)) few in
        let b : Q * L ≤ 2 * S = omega (arith, squares.over) in
        let c : S * 2 ^ 57 ≤ S * L = mul-le-mul_left S big in
        omega (arith, cross-le xs good)

    back-square : Near 2 (total back xs) (total square xs * L)
    back-square =
        let Z = total square xs * L in
        let a = cross-small in
        near_of 2 (total back xs) Z (Z + Z) (Z + Z) (omega (arith, back-hi xs good)) (omega (arith, back-lo xs good)) (omega arith) (omega arith)

    pos-Q : 0 < Q
    pos-Q =
        elim (eq-zero-or-pos Q) [
          | inl z ↦
              let a : Q * L ≡ 0 = ap (λ (w : ℕ). w * L) z ∙ zero-mul L in
              let b : 0 < L = le_trans (omega arith) big in
              absurd (nothing (total square xs) (Q * L) (L * L) squares.under a enough (mul-pos b b))
          | inr p ↦ p
        ]

    pub dual-near : Near 20 (total prod xs) (L * L)
    dual-near =
        let S = total square xs in
        let W = total prod xs in
        let a : Near 16 (Q * W) (total back xs) = rw mul_comm (near-sym (back-near xs good)) in
        let b : Near 2 (S * L) (Q * (L * L)) = rw (mul_comm S L, mul_left_comm Q L L) (near-scale L (near-sym squares)) in
        near-unscale Q pos-Q (near-trans 18 2 (omega arith) (near-trans 16 2 (omega arith) a back-square) b)
