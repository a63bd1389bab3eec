-- "The squares of the two pan balances add to 2 within 2^-14", for every pan in -1..1 and with
-- every arm: at the centre both are 1, and the far side of a hard pan, which is 0, is what the
-- formula gives there. No balance is negative or above 2. Assumes nothing.
use mathlib.Core.Path.{◌≡◌, refl, sym, subst}
use mathlib.Core.Bool.{Bool, true, false, cond}
use Prim.Native.Nat.{◌^◌}
use lib.Dec.{T, lit≤}
use lib.Ieee.{Float, binary32, of_bits, neg, le, lt, eq, fits}
use Rattle.float_laws.specs.Units.{mag, real, real-number}
use Rattle.float_laws.specs.Rise.{Upto}
use Rattle.float32.specs.Remainder.{zero, one}
use Rattle.sine.proofs.Balances.{AddToTwo}
use Rattle.sine.proofs.Pan as formula
use Rattle.lobes.specs.declared.pan.Side.TheVariants.{Mono, Left, Right}
use Rattle.lobes.specs.Pan.{Side, left, right, hard_left, hard_right, left_balance, right_balance, balance}

-- where a test holds, what the formula gives there anyway
either : (b : Bool) (x y : Float) → (T b → y ≡ x) → cond b x y ≡ y
either true x y h = sym (h tt)
either false x y h = refl

module _ (pan : Float) (p : T (real binary32 pan)) (low : T (le hard_left pan)) (high : T (le pan hard_right)) where
  left-arm : left_balance pan ≡ formula.left_balance pan
  unfolding of_bits
  left-arm = either (eq pan hard_right) zero (formula.left_balance pan) (λ t. (formula.balances-hard-right pan (real-number binary32 pan p) t).0)

  right-arm : right_balance pan ≡ formula.right_balance pan
  unfolding of_bits neg
  right-arm = either (eq pan hard_left) zero (formula.right_balance pan) (λ t. (formula.balances-hard-left pan (real-number binary32 pan p) t).1)

  -- at the centre, and elsewhere
  by-centre : (P : Float → Float → Type 0) → P one one → P (formula.left_balance pan) (formula.right_balance pan) → P (balance left pan) (balance right pan)
  unfolding balance
  by-centre P c s = rw (left-arm, right-arm) (go (eq pan zero))
    where
      go : (b : Bool) → P (cond b one (formula.left_balance pan)) (cond b one (formula.right_balance pan))
      go true = c
      go false = s

  pub pan-law : AddToTwo (2 ^ 149) (mag binary32 (balance left pan)) (mag binary32 (balance right pan))
  unfolding of_bits neg
  pan-law = by-centre (λ (a b : Float). AddToTwo (2 ^ 149) (mag binary32 a) (mag binary32 b)) formula.pan-law-at-centre (formula.pan-law pan p low high)

  one-upto : Upto binary32 1 one
  unfolding of_bits fits le lt eq mag
  one-upto = record { is_real = tt; low = tt; high = lit≤ tt }

  pub balance-upto : (side : Side) → Upto binary32 1 (balance side pan)
  unfolding of_bits neg balance
  balance-upto Mono = subst (Upto binary32 1) (sym (either (eq pan zero) one one (λ t. refl))) one-upto
  balance-upto Left = by-centre (λ (a b : Float). Upto binary32 1 a) one-upto (formula.left-not-negative pan p low high)
  balance-upto Right = by-centre (λ (a b : Float). Upto binary32 1 b) one-upto (formula.right-not-negative pan p low high)
