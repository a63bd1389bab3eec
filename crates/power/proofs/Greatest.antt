-- `greatest f t n` is the greatest F below n with f F ≤ t, and the only such number; a larger t has
-- one no smaller. Assumes nothing.
use mathlib.Core.Path.{◌≡◌}
use mathlib.Core.Logic.{inl, inr}
use mathlib.Core.Bool.{Bool, true, false, not, cond}
use Prim.Native.Nat.{ℕ, zero, suc, ◌≤◌, ◌<◌}
use native.Mathlib.Nat.{le_trans, le_antisymm, not-le_of_lt, le_of_suc-le-suc, eq-or-lt_of_le}
use native.Mathlib.Omega.{arith}
use lib.Dec.{T, leb, leb→le, nleb→lt}
use Rattle.power.specs.Log.{greatest}

-- F is the greatest of the numbers below e with f F ≤ t
pub record Greatest (f : ℕ → ℕ) (t e F : ℕ) : Type 0 where
  pub under : F < e
  pub fits : f F ≤ t
  pub most : (G : ℕ) → G < e → f G ≤ t → G ≤ F

module _ (f : ℕ → ℕ) (t : ℕ) where
  pub is-greatest : (n F : ℕ) → F < n → f F ≤ t → Greatest f t n (greatest f t n)
  unfolding greatest
  is-greatest zero F h l = absurd (omega arith)
  is-greatest (suc n) F h l = go (leb (f n) t) (leb→le (f n) t) (nleb→lt (f n) t) (λ s. is-greatest n F s l)
    where
      go : (b : Bool) → (T b → f n ≤ t) → (T (not b) → t < f n) → (F < n → Greatest f t n (greatest f t n)) → Greatest f t (suc n) (cond b n (greatest f t n))
      go true y z below = record { under = omega arith; fits = y tt; most = λ G g v. le_of_suc-le-suc g }
      go false y z below =
          let r = below (smaller F h l) in
          record { under = let u = r.under in omega arith; fits = r.fits; most = λ G g v. r.most G (smaller G g v) v }
        where
          smaller : (G : ℕ) → G < suc n → f G ≤ t → G < n
          smaller G g v = elim (eq-or-lt_of_le (le_of_suc-le-suc g)) [ inl e ↦ absurd (not-le_of_lt (z tt) (rw e at v)) | inr s ↦ s ]

  pub greatest-unique : (n F : ℕ) → Greatest f t n F → F ≡ greatest f t n
  greatest-unique n F g =
      let r = is-greatest n F g.under g.fits in
      le_antisymm (r.most F g.under g.fits) (g.most (greatest f t n) r.under r.fits)

pub greatest-mono : (f : ℕ → ℕ) (t u n F : ℕ) → F < n → f F ≤ t → t ≤ u → greatest f t n ≤ greatest f u n
greatest-mono f t u n F h l k =
    let r = is-greatest f t n F h l in
    (is-greatest f u n F h (le_trans l k)).most (greatest f t n) r.under (le_trans r.fits k)
