-- Sums of whole numbers over a list, and a fact of every entry: over joined lists, over lists made
-- by `tabulate`, over ranges; and the sum over the numbers of one residue class. Assumes nothing.
use Rattle.std.specs.Prelude.{◌≡◌, refl, Bool, true, false, cond, T, eqb, length, get_or, take, drop, set}
use Rattle.std.proofs.Math.Path.{sym, ap}
use Rattle.std.proofs.Common.{◌∙◌, add_assoc, add-zero, zero-add, zero-mul, le_refl, le_of_suc-le-suc, not-suc-le-zero, add-one, arith, eqb→eq}
use mathlib.Core.List.{List, [], ◌∷◌, ◌++◌}
use Prim.Native.Nat.{ℕ, zero, suc, ◌+◌, ◌-◌, ◌*◌, ◌%◌, ◌≤◌, ◌<◌}
use Rattle.std.proofs.Math.Nat.{add-suc, suc-add, suc-mul}
use Rattle.std.proofs.Math.Arith.{digits_mod}
use Rattle.std.proofs.Math.Dec.{eqb_refl}
use Rattle.lists.specs.Maps.{tab_from, tabulate-self}
use Rattle.lists.specs.Folds.{range}

module _ {A : Type 0} where
  unfoldable pub total : (A → ℕ) → List A → ℕ
  total g [] = 0
  total g (x ∷ xs) = g x + total g xs

  pub total-append : (g : A → ℕ) (xs ys : List A) → total g (xs ++ ys) ≡ total g xs + total g ys
  unfolding total
  total-append g [] ys = sym (zero-add (total g ys))
  total-append g (x ∷ xs) ys = ap (λ (z : ℕ). g x + z) (total-append g xs ys) ∙ sym (add_assoc (g x) (total g xs) (total g ys))

  abbrev pub All : (A → Type 0) → List A → Type 0
  All P [] = Unit
  All P (x ∷ xs) = P x × All P xs

  pub all_append : (P : A → Type 0) (xs ys : List A) → All P xs → All P ys → All P (xs ++ ys)
  all_append P [] ys h k = k
  all_append P (x ∷ xs) ys h k = (h.0, all_append P xs ys h.1 k)

  pub all_take : (P : A → Type 0) (n : ℕ) (xs : List A) → All P xs → All P (take n xs)
  all_take P zero xs h = tt
  all_take P (suc n) [] h = tt
  all_take P (suc n) (x ∷ xs) h = (h.0, all_take P n xs h.1)

  pub all_drop : (P : A → Type 0) (n : ℕ) (xs : List A) → All P xs → All P (drop n xs)
  all_drop P zero xs h = h
  all_drop P (suc n) [] h = tt
  all_drop P (suc n) (x ∷ xs) h = all_drop P n xs h.1

  pub all_set :
      (P : A → Type 0) (xs : List A) (k : ℕ) (x : A) → All P xs → P x → All P (set xs k x)
  all_set P [] k x h p = tt
  all_set P (y ∷ ys) zero x h p = (p, h.1)
  all_set P (y ∷ ys) (suc k) x h p = (h.0, all_set P ys k x h.1 p)

  pub all-at : (P : A → Type 0) (xs : List A) (k : ℕ) (d : A) → All P xs → k < length xs → P (get_or xs k d)
  all-at P [] k d h l = absurd (not-suc-le-zero l)
  all-at P (x ∷ xs) zero d h l = h.0
  all-at P (x ∷ xs) (suc k) d h l = all-at P xs k d h.1 (le_of_suc-le-suc l)

  -- ---- of a list made by `tabulate`
  pub all-tab : (P : A → Type 0) (g : ℕ → A) (i n : ℕ) → ((k : ℕ) → i ≤ k → k < i + n → P (g k)) → All P (tab_from g i n)
  unfolding tab_from
  all-tab P g i zero h = tt
  all-tab P g i (suc n) h = (h i (le_refl i) (omega arith), all-tab P g (suc i) n (λ k p q. h k (omega arith) (omega (arith, suc-add i n, add-suc i n))))

pub total-tab : {A : Type 0} (h : A → ℕ) (g : ℕ → A) (i n : ℕ) → total h (tab_from g i n) ≡ total (λ k. h (g k)) (range i n)
unfolding total tab_from range
total-tab h g i zero = refl
total-tab h g i (suc n) = ap (λ (z : ℕ). h (g i) + z) (total-tab h g (suc i) n)

pub total-get_or : {A : Type 0} (d : A) (h : A → ℕ) (xs : List A) → total h xs ≡ total (λ k. h (get_or xs k d)) (range 0 (length xs))
total-get_or d h xs = ap (total h) (tabulate-self d xs) ∙ total-tab h (λ k. get_or xs k d) 0 (length xs)

-- ---- over a range
pub total-same : (g h : ℕ → ℕ) (i n : ℕ) → ((k : ℕ) → i ≤ k → k < i + n → g k ≡ h k) → total g (range i n) ≡ total h (range i n)
unfolding total range
total-same g h i zero e = refl
total-same g h i (suc n) e =
    ap (λ (z : ℕ). z + total g (range (suc i) n)) (e i (le_refl i) (omega arith))
    ∙ ap (λ (z : ℕ). h i + z) (total-same g h (suc i) n (λ k p q. e k (omega arith) (omega (arith, suc-add i n, add-suc i n))))

pub total-none : (g : ℕ → ℕ) (i n : ℕ) → ((k : ℕ) → i ≤ k → k < i + n → g k ≡ 0) → total g (range i n) ≡ 0
unfolding total range
total-none g i zero e = refl
total-none g i (suc n) e =
    let a = e i (le_refl i) (omega arith) in
    let b = total-none g (suc i) n (λ k p q. e k (omega arith) (omega (arith, suc-add i n, add-suc i n))) in
    omega arith

range-append : (i m n : ℕ) → range i (m + n) ≡ range i m ++ range (i + m) n
unfolding range
range-append i zero n = rw (zero-add, add-zero)
range-append i (suc m) n = rw suc-add (ap (λ l. i ∷ l) (range-append (suc i) m n ∙ rw (suc-add i m, add-suc i m)))

pub total-range : (g : ℕ → ℕ) (i m n : ℕ) → total g (range i (m + n)) ≡ total g (range i m) + total g (range (i + m) n)
total-range g i m n = ap (total g) (range-append i m n) ∙ total-append g (range i m) (range (i + m) n)

total-one : (g : ℕ → ℕ) (i : ℕ) → total g (range i 1) ≡ g i
unfolding total range
total-one g i = add-zero (g i)

-- ---- the sum of g over the numbers below n that are r modulo m
abbrev pub residues : ℕ → ℕ → ℕ → (ℕ → ℕ) → ℕ
residues m r n g = total (λ k. cond (eqb (k % m) r) (g k) 0) (range 0 n)

-- of m · n numbers they are r, r + m, r + 2 m, .., n of them
module _ (m r : ℕ) (g : ℕ → ℕ) (h : r < m) where
  abbrev only : ℕ → ℕ
  only k = cond (eqb (k % m) r) (g k) 0

  other : (q k : ℕ) → k < m → (k ≡ r → ⊥) → only (q * m + k) ≡ 0
  other q k l ne = rw (digits_mod q l) (go (eqb k r) (eqb→eq k r))
    where
      go : (b : Bool) → (T b → k ≡ r) → cond b (g (q * m + k)) 0 ≡ 0
      go true e = absurd (ne (e tt))
      go false e = refl

  own : (q : ℕ) → only (q * m + r) ≡ g (q * m + r)
  own q = rw (digits_mod q h) (go (eqb r r) (eqb_refl r))
    where
      go : (b : Bool) → T b → cond b (g (q * m + r)) 0 ≡ g (q * m + r)
      go true t = refl
      go false t = absurd t

  -- m numbers in a row hold one of the class
  row : (q : ℕ) → total only (range (q * m) m) ≡ g (q * m + r)
  row q =
      let e : m ≡ r + (1 + (m - (r + 1))) = omega arith in
      let a = total-range only (q * m) r (1 + (m - (r + 1))) in
      let b = total-range only (q * m + r) 1 (m - (r + 1)) in
      let c = total-none only (q * m) r (λ k p l. before k p l) in
      let d = total-none only (q * m + r + 1) (m - (r + 1)) (λ k p l. after k p l) in
      ap (λ (n : ℕ). total only (range (q * m) n)) e ∙ omega (arith, a, b, c, d, total-one only (q * m + r), own q)
    where
      before : (k : ℕ) → q * m ≤ k → k < q * m + r → only k ≡ 0
      before k p l = let w : q * m + (k - q * m) ≡ k = omega arith in ap only (sym w) ∙ other q (k - q * m) (omega arith) (λ z. omega arith)

      after : (k : ℕ) → q * m + r + 1 ≤ k → k < q * m + r + 1 + (m - (r + 1)) → only k ≡ 0
      after k p l = let w : q * m + (k - q * m) ≡ k = omega arith in ap only (sym w) ∙ other q (k - q * m) (omega arith) (λ z. omega arith)

  pub residues-rows : (n : ℕ) → residues m r (n * m) g ≡ total (λ q. g (q * m + r)) (range 0 n)
  residues-rows zero = rw (zero-mul m) (unfold total range in refl)
  residues-rows (suc n) =
      let e : suc n * m ≡ n * m + m = suc-mul n m in
      ap (λ (z : ℕ). total only (range 0 z)) e
      ∙ total-range only 0 (n * m) m
      ∙ ap (λ (z : ℕ). z + total only (range (0 + n * m) m)) (residues-rows n)
      ∙ ap (λ (z : ℕ). total (λ q. g (q * m + r)) (range 0 n) + total only (range z m)) (zero-add (n * m))
      ∙ ap (λ (z : ℕ). total (λ q. g (q * m + r)) (range 0 n) + z) (row n)
      ∙ sym (ap (λ (z : ℕ). total (λ q. g (q * m + r)) (range 0 z)) (sym (add-one n))
      ∙ total-range (λ q. g (q * m + r)) 0 n 1
      ∙ ap (λ (z : ℕ). total (λ q. g (q * m + r)) (range 0 n) + total (λ q. g (q * m + r)) (range z 1)) (zero-add n)
      ∙ ap (λ (z : ℕ). total (λ q. g (q * m + r)) (range 0 n) + z) (total-one (λ q. g (q * m + r)) n))
