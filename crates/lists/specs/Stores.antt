-- A run of entries stored into a list from a place on: two runs that follow one another are one,
-- and a run as long as the list is the list. Assumes nothing.
use Rattle.std.specs.Prelude.{◌≡◌, ℕ, suc, ◌+◌, set}
use Rattle.std.proofs.Math.Path.{refl, ap}
use Rattle.std.proofs.Common.{sym, ◌∙◌, add-zero, add-suc, suc-add, arith, drop_of_length-le}
use mathlib.Core.List.{List, [], ◌∷◌, ◌++◌, append-nil}
use Rattle.std.proofs.Math.ListN.{length}
use Rattle.std.proofs.Math.Seq.{sets, length-sets, sets-eq}

module _ {A : Type 0} where
  unfoldable pub stored : List A → ℕ → List A → List A
  stored old at new = sets old at new

  pub stored-none : (l : List A) (i : ℕ) → l ≡ stored l i []
  unfolding stored
  stored-none l i = refl

  pub stored_one : (l : List A) (i : ℕ) (a : A) → set l i a ≡ stored l i (a ∷ [])
  unfolding stored
  stored_one l i a = refl

  pub stored-length : (l : List A) (i : ℕ) (a : List A) → length (stored l i a) ≡ length l
  unfolding stored
  stored-length l i a = length-sets l i a

  sets-append :
      (l : List A) (i : ℕ) (a b : List A) → sets (sets l i a) (i + length a) b ≡ sets l i (a ++ b)
  sets-append l i [] b = rw (add-zero i)
  sets-append l i (x ∷ xs) b =
      let e : i + suc (length xs) ≡ suc i + length xs =
      omega (arith, add-suc i (length xs), suc-add i (length xs)) in
      rw e (sets-append (set l i x) (suc i) xs b)

  pub stored-append :
      (l : List A) (i j : ℕ) (a b : List A) → i + length a ≡ j
      → stored (stored l i a) j b ≡ stored l i (a ++ b)
  unfolding stored
  stored-append l i j a b e = ap (λ (k : ℕ). sets (sets l i a) k b) (sym e) ∙ sets-append l i a b

  pub stored-all : (l a : List A) → length a ≡ length l → stored l 0 a ≡ a
  unfolding stored
  stored-all l a e =
      sets-eq a l 0 (omega (arith, e))
      ∙ ap (λ (r : List A). a ++ r) (drop_of_length-le l {i = 0 + length a} (omega (arith, e)))
      ∙ append-nil a
