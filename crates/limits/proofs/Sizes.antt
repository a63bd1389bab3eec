-- An accepted size is 2 ^ k for a k in 6..14, since the nine sizes are the powers of two from there
-- on. Assumes nothing.
use mathlib.Core.Path.{◌≡◌}
use mathlib.Core.Bool.{Bool, true, false, ◌||◌}
use mathlib.Core.List.{List, [], ◌∷◌}
use Prim.Native.Nat.{ℕ, zero, suc, ◌+◌, ◌^◌, ◌≤◌, ◌<◌}
use native.Mathlib.Nat.{le_refl, add-suc, suc-add}
use native.Mathlib.Omega.{arith}
use lib.Dec.{T, eqb, eqb→eq}
use Rattle.limits.specs.Limits as limits
use Rattle.limits.specs.Limits.{one_of}

pub record PowerOfTwo (least end n : ℕ) : Type 0 where
  pub exponent : ℕ
  pub from : least ≤ exponent
  pub below : exponent < end
  pub is : n ≡ 2 ^ exponent

-- 2 ^ j and the powers after it, m of them
abbrev powers_from : ℕ → ℕ → List ℕ
powers_from j zero = []
powers_from j (suc m) = 2 ^ j ∷ powers_from (suc j) m

among : (m j n : ℕ) → T (one_of (powers_from j m) n) → PowerOfTwo j (j + m) n
among zero j n t = absurd t
among (suc m) j n t = go (eqb n (2 ^ j)) (eqb→eq n (2 ^ j)) (among m (suc j) n) t
  where
    go : (b : Bool) → (T b → n ≡ 2 ^ j) → (T (one_of (powers_from (suc j) m) n) → PowerOfTwo (suc j) (suc j + m) n) → T (b || one_of (powers_from (suc j) m) n)
        → PowerOfTwo j (j + suc m) n
    go true e later t = record { exponent = j; from = le_refl j; below = omega arith; is = e tt }
    go false e later t =
        let r = later t in
        record { exponent = r.exponent; from = omega (arith, r.from); below = omega (arith, r.below, add-suc j m, suc-add j m); is = r.is }

pub size-power : (n : ℕ) → T (limits.size n) → PowerOfTwo 6 15 n
size-power n t = among 9 6 n t
