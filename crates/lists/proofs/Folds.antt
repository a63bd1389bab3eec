-- What the place of the first entry that fails a test says: it is at most the length, every entry
-- before it passes, and the entry at it, if there is one, fails. Assumes nothing.
use Rattle.std.specs.Prelude.{◌≡◌, Bool, get_or}
use Rattle.std.proofs.Math.Path.{refl, sym, subst}
use Rattle.std.proofs.Common.{◌∙◌, le_of_suc-le-suc, not-suc-le-zero, zero-add, le_refl}
use Rattle.std.proofs.Math.Bool.{true, false, cond}
use mathlib.Core.List.{List, [], ◌∷◌}
use Prim.Native.Nat.{ℕ, zero, suc, ◌+◌, ◌-◌, ◌≤◌, ◌<◌}
use Rattle.std.proofs.Math.Nat.{add-zero, suc-add, add-suc, sub-zero}
use Rattle.std.proofs.Math.Decide.{dec_lt}
use native.Mathlib.Omega.{arith}
use Rattle.std.proofs.Math.Dec.{T}
use Rattle.std.proofs.Math.ListN.{length}
use Rattle.lists.specs.Folds.{first_bad_from, first_bad}

module _ {A : Type 0} where
  -- what the place says: it is at most the length; every entry before it passes; the entry at it,
  -- if there is one, fails
  bad-bounds : (ok : ℕ → A → Bool) (i : ℕ) (xs : List A) → (i ≤ first_bad_from ok i xs) × (first_bad_from ok i xs ≤ i + length xs)
  unfolding first_bad_from
  bad-bounds ok i [] = (le_refl i, omega arith)
  bad-bounds ok i (x ∷ xs) = go (ok i x) (bad-bounds ok (suc i) xs)
    where
      go : (b : Bool) → (suc i ≤ first_bad_from ok (suc i) xs) × (first_bad_from ok (suc i) xs ≤ suc i + length xs)
          → (i ≤ cond b (first_bad_from ok (suc i) xs) i) × (cond b (first_bad_from ok (suc i) xs) i ≤ i + suc (length xs))
      go true w = (omega arith, omega arith)
      go false w = (le_refl i, omega arith)

  pub bad-le : (ok : ℕ → A → Bool) (xs : List A) → first_bad ok xs ≤ length xs
  bad-le ok xs = rw zero-add at (bad-bounds ok 0 xs).1

  before : (d : A) (ok : ℕ → A → Bool) (i : ℕ) (xs : List A) (k : ℕ) → i + k < first_bad_from ok i xs → k < length xs → T (ok (i + k) (get_or xs k d))
  unfolding first_bad_from
  before d ok i [] k h l = absurd (not-suc-le-zero l)
  before d ok i (x ∷ xs) zero h l = rw add-zero (go (ok i x) h)
    where
      go : (b : Bool) → i + 0 < cond b (first_bad_from ok (suc i) xs) i → T b
      go true h = tt
      go false h = absurd (omega arith)
  before d ok i (x ∷ xs) (suc k) h l = go (ok i x) (λ g. before d ok (suc i) xs k g (le_of_suc-le-suc l)) h
    where
      go : (b : Bool) → (suc i + k < first_bad_from ok (suc i) xs → T (ok (suc i + k) (get_or xs k d))) → i + suc k < cond b (first_bad_from ok (suc i) xs) i
          → T (ok (i + suc k) (get_or xs k d))
      go true r h = subst (λ (m : ℕ). T (ok m (get_or xs k d))) (suc-add i k ∙ sym (add-suc i k)) (r (omega (arith, suc-add i k, add-suc i k)))
      go false r h = absurd (omega arith)

  pub bad-before : (d : A) (ok : ℕ → A → Bool) (xs : List A) (k : ℕ) → k < first_bad ok xs → T (ok k (get_or xs k d))
  bad-before d ok xs k h = let l = bad-le ok xs in rw zero-add at (before d ok 0 xs k (rw zero-add h) (omega arith))

  at : (d : A) (ok : ℕ → A → Bool) (i : ℕ) (xs : List A) → first_bad_from ok i xs < i + length xs
      → ok (first_bad_from ok i xs) (get_or xs (first_bad_from ok i xs - i) d) ≡ false
  unfolding first_bad_from
  at d ok i [] h = absurd (omega arith)
  at d ok i (x ∷ xs) h = go (ok i x) refl (at d ok (suc i) xs) h
    where
      m : ℕ
      m = first_bad_from ok (suc i) xs

      go : (b : Bool) → ok i x ≡ b → (m < suc i + length xs → ok m (get_or xs (m - suc i) d) ≡ false) → cond b m i < i + suc (length xs)
          → ok (cond b m i) (get_or (x ∷ xs) (cond b m i - i) d) ≡ false
      go true e r h =
          let w : m - i ≡ suc (m - suc i) = omega (arith, (bad-bounds ok (suc i) xs).0) in
          rw w (r (omega (arith, suc-add i (length xs), add-suc i (length xs))))
      go false e r h = let w : i - i ≡ 0 = omega arith in rw w e

  pub bad-at : (d : A) (ok : ℕ → A → Bool) (xs : List A) → first_bad ok xs < length xs → ok (first_bad ok xs) (get_or xs (first_bad ok xs) d) ≡ false
  bad-at d ok xs h = rw sub-zero at (at d ok 0 xs (rw zero-add h))

  -- where every entry passes, it is the length
  pub bad-none : (d : A) (ok : ℕ → A → Bool) (xs : List A) → ((k : ℕ) → k < length xs → T (ok k (get_or xs k d))) → first_bad ok xs ≡ length xs
  bad-none d ok xs all = go (dec_lt (first_bad ok xs) (length xs))
    where
      go : Dec (first_bad ok xs < length xs) → first_bad ok xs ≡ length xs
      go (yes h) = absurd (subst T (bad-at d ok xs h) (all (first_bad ok xs) h))
      go (no h) = omega (arith, bad-le ok xs)
