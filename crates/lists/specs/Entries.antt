-- A fact of every entry of a list: of the numbers of a range, of the entries before one that stops,
-- and from a fact at each place. Assumes nothing.
use Rattle.std.specs.Prelude.{Bool, cond, ℕ, zero, suc, ◌+◌, ◌≤◌, ◌<◌, length, get_or}
use Rattle.std.proofs.Math.Bool.{true, false}
use mathlib.Core.List.{List, [], ◌∷◌}
use Rattle.std.proofs.Common.{le_refl, add-suc, suc-add, arith}
use Rattle.lists.specs.Folds.{range, take_until}
use Rattle.lists.specs.Totals.{All}

from_on : (i k n top : ℕ) → i ≤ k → k + n ≤ top → All (λ m. (i ≤ m) × (m < top)) (range k n)
unfolding range
from_on i k zero top h l = tt
from_on i k (suc n) top h l = ((h, omega arith), from_on i (suc k) n top (omega arith) (omega (arith, add-suc k n, suc-add k n)))

pub all-range : (i n : ℕ) → All (λ m. (i ≤ m) × (m < i + n)) (range i n)
all-range i n = from_on i i n (i + n) (le_refl i) (le_refl (i + n))

module _ {A : Type 0} where
  pub all-until : (P : A → Type 0) (stop : A → Bool) (xs : List A) → All P xs → All P (take_until stop xs)
  unfolding take_until
  all-until P stop [] h = tt
  all-until P stop (x ∷ xs) h = go (stop x) (all-until P stop xs h.1)
    where
      go : (b : Bool) → All P (take_until stop xs) → All P (cond b [] (x ∷ take_until stop xs))
      go true r = tt
      go false r = (h.0, r)

  pub all-weaken : {P Q : A → Type 0} → ((x : A) → P x → Q x) → (xs : List A) → All P xs → All Q xs
  all-weaken f [] h = tt
  all-weaken f (x ∷ xs) h = (f x h.0, all-weaken f xs h.1)

  pub all_both : {P Q R : A → Type 0} → ((x : A) → P x → Q x → R x) → (xs : List A) → All P xs → All Q xs → All R xs
  all_both f [] h k = tt
  all_both f (x ∷ xs) h k = (f x h.0 k.0, all_both f xs h.1 k.1)

  pub all-places : (P : A → Type 0) (d : A) (xs : List A) → ((i : ℕ) → i < length xs → P (get_or xs i d)) → All P xs
  all-places P d [] h = tt
  all-places P d (x ∷ xs) h = (h 0 (omega arith), all-places P d xs (λ i l. h (suc i) (omega arith)))
