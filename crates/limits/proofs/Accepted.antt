-- What an accepted size, overlap and window value are worth to the calls below: bounds in numbers.
-- Assumes nothing.
use mathlib.Core.Path.{◌≡◌, sym, ◌∙◌, subst}
use mathlib.Core.Bool.{Bool, true, false, not, ◌&&◌, ◌||◌}
use mathlib.Core.List.{List, [], ◌∷◌}
use Prim.Native.Nat.{ℕ, suc, ◌*◌, ◌/◌, ◌%◌, ◌≤◌, ◌<◌}
use native.Mathlib.Nat.{div-add-mod}
use native.Mathlib.Omega.{arith}
use borrow.Author.Tests.{not-false}
use lib.Dec.{T, leb, eqb, leb→le, eqb→eq}
use lib.Ieee.Fits.{and_l, and_r}
use Rattle.lists.specs.Tested.{every}
use Rattle.limits.specs.Limits as limits

-- a bool that a callee answers, and that passes
pub passed : {b r : Bool} → r ≡ b → not r ≡ false → T b
passed {b} {r} e h = subst T (sym (sym e ∙ not-false r h)) tt

-- ---- a size: one of a list's numbers, of which none is above m
one-of-most : (ks : List ℕ) (m n i : ℕ) → T (every (λ j k. leb k m) i ks) → T (limits.one_of ks n) → n ≤ m
one-of-most [] m n i t o = absurd o
one-of-most (k ∷ ks) m n i t o =
    go (eqb n k) (eqb→eq n k) (λ w. one-of-most ks m n (suc i) (and_r (leb k m) (every (λ j k. leb k m) (suc i) ks) t) w) o
  where
    first : k ≤ m
    first = leb→le k m (and_l (leb k m) (every (λ j k. leb k m) (suc i) ks) t)

    go : (b : Bool) → (T b → n ≡ k) → (T (limits.one_of ks n) → n ≤ m) → T (b || limits.one_of ks n) → n ≤ m
    go true e rest w = let z : n ≡ k = e tt in omega (arith, first)
    go false e rest w = rest w

pub size-at-most : (n : ℕ) → T (limits.size n) → n ≤ 16384
size-at-most n t = one-of-most (64 ∷ 128 ∷ 256 ∷ 512 ∷ 1024 ∷ 2048 ∷ 4096 ∷ 8192 ∷ 16384 ∷ []) 16384 n 0 tt t

-- ---- an overlap of a list of n entries
module _ (overlap n : ℕ) (t : T (limits.overlap overlap n)) where
  between : T (leb 1 overlap && leb overlap 16)
  between = and_l (leb 1 overlap && leb overlap 16) (eqb (n % overlap) 0) t

  pub overlap-positive : 0 < overlap
  overlap-positive = leb→le 1 overlap (and_l (leb 1 overlap) (leb overlap 16) between)

  pub overlap-at-most : overlap ≤ 16
  overlap-at-most = leb→le overlap 16 (and_r (leb 1 overlap) (leb overlap 16) between)

  pub overlap-divides : n ≡ overlap * (n / overlap)
  overlap-divides =
      let z : n % overlap ≡ 0 = eqb→eq (n % overlap) 0 (and_r (leb 1 overlap && leb overlap 16) (eqb (n % overlap) 0) t) in
      let d = div-add-mod n overlap in
      omega arith
