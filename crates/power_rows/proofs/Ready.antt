-- The numbers that the rows' first stage leaves: each is positive and normal, and has the logarithm
-- of the number that was there: numbers without one become 1, whose logarithm is 0.
-- Assumes nothing.
use mathlib.Core.Path.{◌≡◌, refl, sym, ap, ◌∙◌, subst}
use mathlib.Core.Bool.{Bool, true, false, cond}
use mathlib.Core.List.{List}
use Prim.Native.Nat.{ℕ, ◌+◌, ◌*◌, ◌^◌, ◌≤◌, ◌<◌}
use native.Mathlib.Omega.{arith}
use lib.Count.{count_trailing_zeros}
use lib.Dec.{T, lit≤}
use lib.ListN.{length, get_or}
use lib.Ieee.{Float, nan, le, of_bits, round, size, span, climb, units, odd}
use lib.Ieee.Exact.{HasValue}
use Rattle.lists.specs.Maps.{map_range, between_in, get_or-map_range}
use Rattle.lists.specs.Stages.{row_at, stages, stage-same}
use Rattle.float32.specs.Remainder.{one}
use Rattle.power.specs.Power.{positive_zero}
use Rattle.power.specs.Log.{positive_normal, rounded, L2}
use Rattle.power.specs.Table.{P}
use Rattle.power.specs.Stages.{digits_of}
use Rattle.power_rows.specs.Log2.{ready_of, step_of, from_of, to_of, Room, Scaled, Found}
use Rattle.power.proofs.LogParts.{digits_in}
use Rattle.power.proofs.Logs.{L2-elsewhere}
use Rattle.power.proofs.LogRange.{L2-of-power}

one-normal : T (positive_normal one)
unfolding le of_bits
one-normal = tt

one_value : HasValue one false (2 ^ 23 * 2 ^ 126) (2 ^ 149)
unfolding of_bits
one_value = (refl, refl)

none : rounded (126 * 2 ^ 24) ≡ positive_zero
unfolding rounded round size span climb units odd count_trailing_zeros
none = refl

one-log : L2 one ≡ positive_zero
one-log = L2-of-power one 126 (lit≤ tt) one_value ∙ none

pub ready-normal : (v : Float) → T (positive_normal (ready_of v))
ready-normal v = go (positive_normal v) refl
  where
    go : (b : Bool) → positive_normal v ≡ b → T (positive_normal (cond b v one))
    go true e = subst T (sym e) tt
    go false e = one-normal

pub ready-log : (v : Float) → L2 (ready_of v) ≡ L2 v
ready-log v = go (positive_normal v) refl
  where
    go : (b : Bool) → positive_normal v ≡ b → L2 (cond b v one) ≡ L2 v
    go true e = refl
    go false e = one-log ∙ sym (L2-elsewhere v e)

-- ---- what the stages leave at the numbers from start on and below stop
pub ready_at : (start stop : ℕ) (xs ys : List Float) → stop ≤ length xs → ys ≡ map_range (λ i v. ready_of v) start stop xs → (i : ℕ) → start ≤ i → i < stop → T (positive_normal (get_or ys i nan))
ready_at start stop xs ys room e i l u =
    subst (λ (v : Float). T (positive_normal v))
    (sym (ap (λ (zs : List Float). get_or zs i nan) e ∙ get_or-map_range (λ i v. ready_of v) start stop xs i nan (omega arith) ∙ between_in (λ i v. ready_of v) start stop i (get_or xs i nan) l u))
    (ready-normal (get_or xs i nan))

module _ (start count : ℕ) (row : List Float) (digits₀ steps₀ from₀ to₀ : List ℕ)
    (room : Room digits₀ steps₀ from₀ to₀ count)
    (normal : (k : ℕ) → k < count → T (positive_normal (get_or row (start + k) nan))) where
  module _ {digits : List ℕ} (a : digits ≡ map_range (λ k held. digits_of (get_or row (start + k) nan)) 0 count digits₀) where
    digits-at : (k : ℕ) → k < count → get_or digits k 0 ≡ digits_of (get_or row (start + k) nan)
    digits-at = row_at 0 (λ k. digits_of (get_or row (start + k) nan)) count digits₀ room.in-digits a

    pub scaled_at : (k : ℕ) → k < count → Scaled (get_or digits k 0)
    scaled_at k h = let b = digits_in (get_or row (start + k) nan) in record { low = rw (digits-at k h) b.0; high = rw (digits-at k h) b.1 }

    pub found_at : {steps from to : List ℕ} → steps ≡ map_range (λ k held. step_of (get_or digits k 0)) 0 count steps₀
        → from ≡ map_range (λ k held. from_of (get_or digits k 0)) 0 count from₀
        → to ≡ map_range (λ k held. to_of (get_or digits k 0)) 0 count to₀
        → (k : ℕ) → k < count → Found (get_or row (start + k) nan) (get_or digits k 0) (get_or steps k 0) (get_or from k 0) (get_or to k 0)
    found_at s f t k h =
        let e = row_at 0 (λ k. step_of (get_or digits k 0)) count steps₀ room.in-steps s k h in
        record {
          normal = normal k h;
          digits = digits-at k h;
          ends =
              record {
                step = e;
                from = row_at 0 (λ k. from_of (get_or digits k 0)) count from₀ room.in-from f k h ∙ ap P (sym e);
                to = row_at 0 (λ k. to_of (get_or digits k 0)) count to₀ room.in-to t k h ∙ ap (λ (j : ℕ). P (j + 1)) (sym e);
              };
        }

pub logs-staged : (start stop : ℕ) (xs : List Float) → map_range (λ i v. L2 v) start stop (map_range (λ i v. ready_of v) start stop xs) ≡ map_range (λ i v. L2 v) start stop xs
logs-staged start stop xs =
    stages (λ i v. L2 v) (λ i v. ready_of v) start stop xs
    ∙ stage-same (λ i v. L2 (ready_of v)) (λ i v. L2 v) start stop xs (λ i v l u. ready-log v)
