-- Runs over a list from its front: `fold step s xs` steps through every entry, `take_until stop xs`
-- ends before the first entry that stops, `first_bad ok xs` is the place of the first entry that
-- fails a test. A loop over an index keeps 'the rest of the run from here is the whole run'. The
-- rest is `drop i (take n xs)` of a list and `range i (n - i)` of the numbers below n: it is an
-- entry and the rest after it, or nothing. The step, stop and end laws take that as their first
-- fact. Assumes nothing.
use Rattle.std.specs.Prelude.{◌≡◌, Bool, get_or, take, drop}
use Rattle.std.proofs.Math.Path.{refl, ap}
use Rattle.std.proofs.Common.{◌∙◌, add-one, drop_of_length-le, length-take, drop-cons, get_or-take, length-take-le}
use Rattle.std.proofs.Math.Bool.{true, false, cond}
use mathlib.Core.List.{List, [], ◌∷◌, ◌++◌}
use Prim.Native.Nat.{ℕ, zero, suc, ◌+◌, ◌-◌, ◌≤◌, ◌<◌}
use native.Mathlib.Omega.{arith}
use Rattle.std.proofs.Math.ListN.{length}
use Rattle.lists.specs.Maps.{tab_from}

-- ---- the numbers from i on, n of them
unfoldable pub range : ℕ → ℕ → List ℕ
range i zero = []
range i (suc n) = i ∷ range (suc i) n

pub range-next : (i n : ℕ) → i < n → range i (n - i) ≡ i ∷ range (i + 1) (n - (i + 1))
unfolding range
range-next i n h = let e : n - i ≡ suc (n - (i + 1)) = omega arith in rw (e, add-one i)

pub range_none : (i n : ℕ) → n ≤ i → range i (n - i) ≡ []
unfolding range
range_none i n h = let e : n - i ≡ 0 = omega arith in rw e

-- ---- what is left of the first n entries of a list, from place i on
module _ {A : Type 0} (xs : List A) (n i : ℕ) where
  pub rest-next : (d : A) → n ≤ length xs → i < n → drop i (take n xs) ≡ get_or xs i d ∷ drop (i + 1) (take n xs)
  rest-next d l h = rw (drop-cons (take n xs) i d (simp (length-take-le n xs l) h), get_or-take n xs i d h, add-one i)

  pub rest-none : n ≤ i → drop i (take n xs) ≡ []
  rest-none h = drop_of_length-le (take n xs) {i = i} (simp length-take (omega arith))

-- ---- a left fold
module _ {A S : Type 0} where
  unfoldable pub fold : (S → A → S) → S → List A → S
  fold step s [] = s
  fold step s (x ∷ xs) = fold step (step s x) xs

  pub fold_step : (step : S → A → S) (s : S) {l : List A} {x : A} {rest : List A} → l ≡ x ∷ rest → fold step s l ≡ fold step (step s x) rest
  unfolding fold
  fold_step step s e = ap (fold step s) e

  pub fold_end : (step : S → A → S) (s : S) {l : List A} → l ≡ [] → fold step s l ≡ s
  unfolding fold
  fold_end step s e = ap (fold step s) e

  -- a run over two lists joined is a run over the first, and then over the second
  pub fold-append : (step : S → A → S) (s : S) (xs ys : List A) → fold step s (xs ++ ys) ≡ fold step (fold step s xs) ys
  unfolding fold
  fold-append step s [] ys = refl
  fold-append step s (x ∷ xs) ys = fold-append step (step s x) xs ys

  -- what each step keeps, the run keeps
  pub fold-keeps : (P : S → Type 0) (step : S → A → S) → ((s : S) (x : A) → P s → P (step s x)) → (s : S) (xs : List A) → P s → P (fold step s xs)
  unfolding fold
  fold-keeps P step k s [] p = p
  fold-keeps P step k s (x ∷ xs) p = fold-keeps P step k (step s x) xs (k s x p)

-- a run over numbers that reads an entry at each is a run over the list of these entries
pub fold-tab : {A S : Type 0} (step : S → A → S) (g : ℕ → A) (s : S) (i n : ℕ) → fold (λ s k. step s (g k)) s (range i n) ≡ fold step s (tab_from g i n)
unfolding fold range tab_from
fold-tab step g s i zero = refl
fold-tab step g s i (suc n) = fold-tab step g (step s (g i)) (suc i) n

-- ---- the entries before the first that stops
module _ {A : Type 0} where
  unfoldable pub take_until : (A → Bool) → List A → List A
  take_until stop [] = []
  take_until stop (x ∷ xs) = cond (stop x) [] (x ∷ take_until stop xs)

  pub until-step : (stop : A → Bool) {l : List A} {x : A} {rest : List A} → l ≡ x ∷ rest → stop x ≡ false → take_until stop l ≡ x ∷ take_until stop rest
  unfolding take_until
  until-step stop e h = ap (take_until stop) e ∙ rw h

  pub until_stop : (stop : A → Bool) {l : List A} {x : A} {rest : List A} → l ≡ x ∷ rest → stop x ≡ true → take_until stop l ≡ []
  unfolding take_until
  until_stop stop e h = ap (take_until stop) e ∙ rw h

  pub until_end : (stop : A → Bool) {l : List A} → l ≡ [] → take_until stop l ≡ []
  unfolding take_until
  until_end stop e = ap (take_until stop) e

  -- ---- the place of the first entry that fails a test of entry and place, the places counted from
  -- i; the place after the last entry where none fails
  unfoldable pub first_bad_from : (ℕ → A → Bool) → ℕ → List A → ℕ
  first_bad_from ok i [] = i
  first_bad_from ok i (x ∷ xs) = cond (ok i x) (first_bad_from ok (suc i) xs) i

  abbrev pub first_bad : (ℕ → A → Bool) → List A → ℕ
  first_bad ok xs = first_bad_from ok 0 xs

  pub bad-step : (ok : ℕ → A → Bool) (i : ℕ) {l : List A} {x : A} {rest : List A} → l ≡ x ∷ rest → ok i x ≡ true
      → first_bad_from ok i l ≡ first_bad_from ok (i + 1) rest
  unfolding first_bad_from
  bad-step ok i {l} {x} {rest} e h = ap (first_bad_from ok i) e ∙ rw h (rw (add-one i))

  pub bad-stop : (ok : ℕ → A → Bool) (i : ℕ) {l : List A} {x : A} {rest : List A} → l ≡ x ∷ rest → ok i x ≡ false → first_bad_from ok i l ≡ i
  unfolding first_bad_from
  bad-stop ok i e h = ap (first_bad_from ok i) e ∙ rw h

  pub bad-end : (ok : ℕ → A → Bool) (i : ℕ) {l : List A} → l ≡ [] → first_bad_from ok i l ≡ i
  unfolding first_bad_from
  bad-end ok i e = ap (first_bad_from ok i) e

  -- of a test that does not look at the place, counted from one place later
  pub bad-later :
      (ok : A → Bool) (i : ℕ) (xs : List A)
      → first_bad_from (λ k x. ok x) (suc i) xs ≡ suc (first_bad_from (λ k x. ok x) i xs)
  unfolding first_bad_from
  bad-later ok i [] = refl
  bad-later ok i (x ∷ xs) = go (ok x) (bad-later ok (suc i) xs)
    where
      go :
          (b : Bool)
          → first_bad_from (λ k x. ok x) (suc (suc i)) xs
          ≡ suc (first_bad_from (λ k x. ok x) (suc i) xs)
          → cond b (first_bad_from (λ k x. ok x) (suc (suc i)) xs) (suc i)
          ≡ suc (cond b (first_bad_from (λ k x. ok x) (suc i) xs) i)
      go true r = r
      go false r = refl
