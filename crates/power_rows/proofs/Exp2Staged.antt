-- The stages of a row of numbers give each the power that exp2 gives: a number between the ends by
-- its own steps and digits, and one beyond them by a test alone. Assumes nothing.
use mathlib.Core.Path.{◌≡◌, refl, sym, ap, ◌∙◌, subst}
use mathlib.Core.Bool.{Bool, true, false, cond, not}
use mathlib.Core.List.{List}
use Prim.Native.Nat.{ℕ, ◌+◌, ◌-◌, ◌*◌, ◌/◌, ◌%◌, ◌^◌, ◌≤◌, ◌<◌}
use lib.Dec.{T}
use lib.ListN.{length, get_or}
use lib.Ieee.{Float, nan, binary32, le, lt, eq, of_bits, nan_bits}
use lib.Ieee.Fits.{and_i, and_l, and_r}
use Rattle.lists.specs.Maps.{map_range}
use Rattle.lists.specs.Stages.{row_at}
use Rattle.float32.specs.Value.{moved}
use Rattle.power.specs.Table.{low_bits, P, I}
use Rattle.power.specs.Power.{positive_zero, power_at, E2, lowest, limit}
use Rattle.power_rows.specs.Exp2.{between, clipped, digits, Found}
use Rattle.power.proofs.Ends.{high-of-le}
use Rattle.power.proofs.Made.{Middle, at, bits_are, bits_fit, bits-no-nan}

-- ---- between the ends
pub between-low : (x : Float) → T (between x) → T (le lowest x)
unfolding between
between-low x t = and_l (le lowest x) (lt x limit) t

pub between-high : (x : Float) → T (between x) → T (lt x limit)
unfolding between
between-high x t = and_r (le lowest x) (lt x limit) t

zero-between : T (between positive_zero)
unfolding between le lt eq
zero-between = tt

pub clipped-between : (x : Float) → T (between (clipped x))
clipped-between x = go (between x) (λ t. t)
  where
    go : (b : Bool) → (T b → T (between x)) → T (between (cond b x positive_zero))
    go true f = f tt
    go false f = zero-between

clipped-same : (x : Float) → T (le lowest x) → T (lt x limit) → clipped x ≡ x
unfolding between
clipped-same x l h = go (between x) (and_i (le lowest x) (lt x limit) l h)
  where
    go : (b : Bool) → T b → cond b x positive_zero ≡ x
    go true t = refl
    go false t = absurd t

-- ---- the bits made of the digits
module _ (y q : ℕ) (from : 2 * 2 ^ 24 ≤ y) (below : y < 256 * 2 ^ 24) (e : q ≡ digits y) where
  abbrev i : ℕ
  i = I (y % 2 ^ 24)

  middle : Middle y i
  middle = record { from = from; below = below; power = refl }

  cut : i / 128 ≡ q
  cut = sym e

  pub made-fit : (y / 2 ^ 24 - 2) * 2 ^ 23 % 2 ^ 64 + q < 2 ^ 32
  made-fit = subst (λ (z : ℕ). (y / 2 ^ 24 - 2) * 2 ^ 23 % 2 ^ 64 + z < 2 ^ 32) cut (bits_fit middle)

  pub made-no-nan : T (not (nan_bits binary32 ((y / 2 ^ 24 - 2) * 2 ^ 23 % 2 ^ 64 + q)))
  made-no-nan = subst (λ (z : ℕ). T (not (nan_bits binary32 ((y / 2 ^ 24 - 2) * 2 ^ 23 % 2 ^ 64 + z)))) cut (bits-no-nan middle)

  pub made-are : of_bits binary32 ((y / 2 ^ 24 - 2) * 2 ^ 23 % 2 ^ 64 + q) ≡ power_at low_bits P (y / 2 ^ 24) (y % 2 ^ 24)
  made-are = subst (λ (z : ℕ). of_bits binary32 ((y / 2 ^ 24 - 2) * 2 ^ 23 % 2 ^ 64 + z) ≡ power_at low_bits P (y / 2 ^ 24) (y % 2 ^ 24)) cut (bits_are middle)

-- ---- what was found of a number
module _ (x : Float) (y q : ℕ) (f : Found x y q) where
  pub found_from : 2 * 2 ^ 24 ≤ y
  found_from = subst (λ (z : ℕ). 2 * 2 ^ 24 ≤ z) (sym f.steps) (high-of-le (clipped x) (between-low (clipped x) (clipped-between x))).1

  pub found-power : T (le lowest x) → T (lt x limit) → power_at low_bits P (y / 2 ^ 24) (y % 2 ^ 24) ≡ E2 x
  found-power l h =
      ap (λ (z : ℕ). power_at low_bits P (z / 2 ^ 24) (z % 2 ^ 24)) (f.steps ∙ ap (moved 128) (clipped-same x l h)) ∙ sym (at x (high-of-le x l).0)

-- ---- the stages
module _ (start count : ℕ) (xs inside₀ : List Float) (found₀ values₀ : List ℕ) (room : (count ≤ length inside₀) × (count ≤ length found₀) × (count ≤ length values₀)) where
  module _ {inside : List Float} (a : inside ≡ map_range (λ k held. clipped (get_or xs (start + k) nan)) 0 count inside₀) where
    inside-at : (k : ℕ) → k < count → get_or inside k nan ≡ clipped (get_or xs (start + k) nan)
    inside-at = row_at nan (λ k. clipped (get_or xs (start + k) nan)) count inside₀ room.0 a

    pub inside-between : (k : ℕ) → k < count → T (between (get_or inside k nan))
    inside-between k h = subst (λ (z : Float). T (between z)) (sym (inside-at k h)) (clipped-between (get_or xs (start + k) nan))

    pub found_at : {found values : List ℕ} → found ≡ map_range (λ k held. moved 128 (get_or inside k nan)) 0 count found₀ → values ≡ map_range (λ k held. digits (get_or found k 0)) 0 count values₀
        → (k : ℕ) → k < count → Found (get_or xs (start + k) nan) (get_or found k 0) (get_or values k 0)
    found_at {found} b c k h =
        record {
          steps = row_at 0 (λ k. moved 128 (get_or inside k nan)) count found₀ room.1 b k h ∙ ap (moved 128) (inside-at k h);
          power = row_at 0 (λ k. digits (get_or found k 0)) count values₀ room.2 c k h;
        }
