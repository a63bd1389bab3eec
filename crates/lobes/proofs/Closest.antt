-- The closest bin is one of two, the lower bin and the one above it, and so from 1 to the last.
-- Assumes nothing.
use mathlib.Core.Path.{◌≡◌, refl, sym, subst}
use mathlib.Core.Bool.{Bool, true, false, cond}
use Prim.Native.Nat.{ℕ, ◌+◌, ◌≤◌, min, max}
use native.Mathlib.Nat.{min-le_right, le-min, le-max_right}
use native.Mathlib.Omega.{arith}
use lib.Ieee.{Float, binary32, div, lt}
use Rattle.counts.specs.Counts.{floor_count}
use Rattle.lobes.specs.Peak.{cents, closest_bin}

pub chosen : (center spacing : Float) (last lower upper : ℕ) → lower ≡ min (max (floor_count (div binary32 center spacing)) 1) last → upper ≡ min (lower + 1) last
    → closest_bin center spacing last ≡ cond (lt (cents spacing center upper) (cents spacing center lower)) upper lower
unfolding closest_bin
chosen center spacing last lower upper l u = rw (u, l) refl

-- what holds of both holds of the one that is chosen
of-both : (P : ℕ → Type 0) (b : Bool) (m n : ℕ) → P m → P n → P (cond b m n)
of-both P true m n p q = p
of-both P false m n p q = q

module _ (center spacing : Float) (last : ℕ) where
  abbrev lower : ℕ
  lower = min (max (floor_count (div binary32 center spacing)) 1) last

  abbrev upper : ℕ
  upper = min (lower + 1) last

  is_one : (P : ℕ → Type 0) → P upper → P lower → P (closest_bin center spacing last)
  is_one P p q = subst P (sym (chosen center spacing last lower upper refl refl)) (of-both P (lt (cents spacing center upper) (cents spacing center lower)) upper lower p q)

  pub closest-le : closest_bin center spacing last ≤ last
  closest-le = is_one (λ (bin : ℕ). bin ≤ last) (min-le_right (lower + 1) last) (min-le_right (max (floor_count (div binary32 center spacing)) 1) last)

  -- bin 0 is never one
  pub closest-pos : 1 ≤ last → 1 ≤ closest_bin center spacing last
  closest-pos h =
      let l = le-min (le-max_right (floor_count (div binary32 center spacing)) 1) h in
      is_one (λ (bin : ℕ). 1 ≤ bin) (le-min (omega (arith, l)) h) l
