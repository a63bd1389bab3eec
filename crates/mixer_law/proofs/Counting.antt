-- How often each number below n stands in a list: the sum of these counts is the list's length, so
-- that a list in which each stands once has at most n entries. Assumes nothing.
use mathlib.Core.Path.{◌≡◌, refl, ◌∙◌}
use mathlib.Core.Bool.{Bool, true, false, cond, ◌||◌}
use mathlib.Core.List.{List, [], ◌∷◌, ◌++◌}
use Prim.Native.Nat.{ℕ, zero, suc, ◌+◌, ◌≤◌, ◌<◌}
use native.Mathlib.Nat.{le_refl}
use native.Mathlib.Decide.{dec_lt}
use native.Mathlib.Omega.{arith}
use lib.Dec.{eqb}
use lib.ListN.{length, drop, length-append}
use borrow.Author.Tests.{eq-eqb, ne_eqb, eqb-true}
use Rattle.lists.specs.Totals.{All, all_append}
use Rattle.mixer.specs.Mixers.{has}

abbrev is : ℕ → ℕ → ℕ
is x v = cond (eqb x v) 1 0

unfoldable pub times : ℕ → List ℕ → ℕ
times v [] = 0
times v (x ∷ xs) = times v xs + is x v

-- ---- sums over the numbers below n
unfoldable sum_to : ℕ → (ℕ → ℕ) → ℕ
sum_to zero f = 0
sum_to (suc n) f = sum_to n f + f n

sum-none : (n : ℕ) → sum_to n (λ v. 0) ≡ 0
unfolding sum_to
sum-none zero = refl
sum-none (suc n) = omega (arith, sum-none n)

sum_same : (n : ℕ) (f g : ℕ → ℕ) → ((v : ℕ) → v < n → f v ≡ g v) → sum_to n f ≡ sum_to n g
unfolding sum_to
sum_same zero f g e = refl
sum_same (suc n) f g e =
    omega (arith, sum_same n f g (λ v h. e v (omega arith)), e n (le_refl (suc n)))

sum-add : (n : ℕ) (f g : ℕ → ℕ) → sum_to n (λ v. f v + g v) ≡ sum_to n f + sum_to n g
unfolding sum_to
sum-add zero f g = refl
sum-add (suc n) f g = omega (arith, sum-add n f g)

sum-is-none : (n x : ℕ) → n ≤ x → sum_to n (is x) ≡ 0
sum-is-none n x h =
    sum_same n (is x) (λ v. 0) (λ v l. rw (ne_eqb x v (λ e. omega arith))) ∙ sum-none n

sum_is : (n x : ℕ) → x < n → sum_to n (is x) ≡ 1
unfolding sum_to
sum_is zero x h = absurd (omega arith)
sum_is (suc n) x h = go (sum_is n x) (dec_lt x n)
  where
    go : (x < n → sum_to n (is x) ≡ 1) → Dec (x < n) → sum_to n (is x) + is x n ≡ 1
    go r (yes l) = rw (ne_eqb x n (λ e. omega arith)) (omega (arith, r l))
    go r (no l) =
        rw (eq-eqb x n (omega arith)) (omega (arith, sum-is-none n x (omega arith)))

sum-most : (n : ℕ) (f : ℕ → ℕ) → ((v : ℕ) → f v ≤ 1) → sum_to n f ≤ n
unfolding sum_to
sum-most zero f h = le_refl 0
sum-most (suc n) f h = omega (arith, sum-most n f h, h n)

-- ---- of a list of numbers below n
sum-times : (n : ℕ) (l : List ℕ) → All (λ x. x < n) l → sum_to n (λ v. times v l) ≡ length l
unfolding times
sum-times n [] a = sum-none n
sum-times n (x ∷ xs) a =
    sum-add n (λ v. times v xs) (is x)
    ∙ omega (arith, sum-times n xs a.1, sum_is n x a.0)

-- ---- each number stands at most once
abbrev pub Once : List ℕ → Type 0
Once l = (v : ℕ) → times v l ≤ 1

times-last : (v : ℕ) (l : List ℕ) (s : ℕ) → times v (l ++ s ∷ []) ≡ times v l + is s v
unfolding times
times-last v [] s = refl
times-last v (x ∷ xs) s = omega (arith, times-last v xs s)

times_none : (s : ℕ) (l : List ℕ) → has s l ≡ false → times s l ≡ 0
unfolding has times
times_none s [] h = refl
times_none s (x ∷ xs) h = go (times_none s xs) (eqb x s) h
  where
    go :
        (has s xs ≡ false → times s xs ≡ 0) → (b : Bool) → (b || has s xs) ≡ false
        → times s xs + cond b 1 0 ≡ 0
    go r true e = let z : ◌≡◌ {A = ℕ} 0 1 = cc in omega arith
    go r false e = omega (arith, r e)

pub none_has : (s : ℕ) (l : List ℕ) → times s l ≡ 0 → has s l ≡ false
unfolding has times
none_has s [] h = refl
none_has s (x ∷ xs) h = go (none_has s xs) (eqb x s) h
  where
    go :
        (times s xs ≡ 0 → has s xs ≡ false) → (b : Bool) → times s xs + cond b 1 0 ≡ 0
        → (b || has s xs) ≡ false
    go r true e = absurd (omega arith)
    go r false e = r (omega arith)

pub once_last : (l : List ℕ) (s : ℕ) → Once l → has s l ≡ false → Once (l ++ s ∷ [])
once_last l s o h v = rw (times-last v l s) (go (eqb s v) refl)
  where
    go : (b : Bool) → eqb s v ≡ b → times v l + cond b 1 0 ≤ 1
    go true e =
        let z : s ≡ v = eqb-true s v e in
        let y : times v l ≡ 0 = rw z at (times_none s l h) in
        omega arith
    go false e = omega (arith, o v)

pub once-drop : (l : List ℕ) → Once l → Once (drop 1 l)
unfolding times
once-drop [] o v = o v
once-drop (x ∷ xs) o v = omega (arith, o v)

-- the first does not come again
pub once-first : (x : ℕ) (xs : List ℕ) → Once (x ∷ xs) → has x xs ≡ false
unfolding times
once-first x xs o =
    none_has x xs (let e = o x in let r = eq-eqb x x refl in omega (arith, rw r at e))

-- a number below n that is not in such a list of numbers below n has room in it
pub room :
    (n : ℕ) (l : List ℕ) (s : ℕ) → All (λ x. x < n) l → Once l → s < n → has s l ≡ false
    → length l < n
room n l s a o h e =
    let t = sum-times n (l ++ s ∷ []) (all_append (λ x. x < n) l (s ∷ []) a (h, tt)) in
    let m = sum-most n (λ v. times v (l ++ s ∷ [])) (once_last l s o e) in
    omega (arith, length-append l (s ∷ []), t, m)
