-- A test of a list's entries in pairs, one of its first half and one of its second, which begins at
-- place `rest`: the pairs before place i pass. Assumes nothing.
use mathlib.Core.Path.{◌≡◌, refl, sym, ◌∙◌, subst}
use mathlib.Core.Bool.{Bool, true, false, ◌&&◌, true≢false}
use mathlib.Core.List.{List}
use Prim.Native.Nat.{ℕ, ◌+◌, ◌-◌, ◌≤◌, ◌<◌}
use native.Mathlib.Decide.{dec_lt}
use native.Mathlib.Omega.{arith}
use lib.Dec.{T}
use lib.Ieee.Fits.{and_l, and_r}
use lib.ListN.{length, get_or}

module _ {A : Type 0} (d : A) (ok : A → Bool) (xs : List A) (rest : ℕ) where
  abbrev passes : ℕ → Bool
  passes k = ok (get_or xs k d) && ok (get_or xs (rest + k) d)

  unfoldable pub Tested : ℕ → Type 0
  Tested i = (k : ℕ) → k < i → T (passes k)

  pub tested-none : Tested 0
  unfolding Tested
  tested-none k h = absurd (omega arith)

  next : (i : ℕ) → Tested i → T (passes i) → Tested (i + 1)
  unfolding Tested
  next i before here k h = go (dec_lt k i)
    where
      go : Dec (k < i) → T (passes k)
      go (yes l) = before k l
      go (no l) = let e : i ≡ k = omega arith in subst (λ (j : ℕ). T (passes j)) e here

  -- the answer so far and the answer of a pair give the next
  pub tested-more : (i : ℕ) (all pair more : Bool) → more ≡ (all && pair) → pair ≡ passes i → (all ≡ true → Tested i) → more ≡ true → Tested (i + 1)
  tested-more i true pair more e p before t = next i (before refl) (subst T (sym (sym p ∙ sym e ∙ t)) tt)
  tested-more i false pair more e p before t = absurd (true≢false (sym t ∙ e))

  -- where the halves have every entry, each passes
  pub tested-all : (half : ℕ) → length xs ≤ rest + half → rest ≤ half → Tested half → (k : ℕ) → k < length xs → T (ok (get_or xs k d))
  unfolding Tested
  tested-all half n m all k h = go (dec_lt k half)
    where
      go : Dec (k < half) → T (ok (get_or xs k d))
      go (yes l) = and_l (ok (get_or xs k d)) (ok (get_or xs (rest + k) d)) (all k l)
      go (no l) =
          let j = k - rest in
          let e : rest + j ≡ k = omega arith in
          subst (λ (i : ℕ). T (ok (get_or xs i d))) e (and_r (ok (get_or xs j d)) (ok (get_or xs (rest + j) d)) (all j (omega arith)))
