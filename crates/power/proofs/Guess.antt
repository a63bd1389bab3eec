-- Where log2's search begins: for the eleven leading digits m of t's fraction `guessed` gives the
-- step that t lies in, or the one before. It never falls, by a test at every m, so that a test at
-- each entry of the table, where t passes from one step to the next, settles the rest. Assumes
-- nothing.
use mathlib.Core.Path.{◌≡◌, subst}
use mathlib.Core.Logic.{inl, inr}
use mathlib.Core.Bool.{Bool, true, false, not, ◌&&◌}
use Prim.Native.Nat.{ℕ, zero, suc, ◌+◌, ◌-◌, ◌/◌, ◌%◌, ◌^◌, ◌≤◌, ◌<◌, min}
use native.Mathlib.Nat.{add-zero, le_refl, le_trans, le_of_eq, le_of_lt, le_of_suc-le-suc, eq-or-lt_of_le, lt_of_le_of_lt}
use native.Mathlib.Omega.{arith}
use mir.Val.{bool_byte}
use lib.Dec.{T, leb, leb→le, nleb→lt, lit<}
use lib.Ieee.Fits.{and_l, and_r}
use Rattle.lists.specs.Tested.{every, every-at, all_below, below_at}
use Rattle.lists.specs.Interpolation.{here_or_on}
use Rattle.power.specs.Table.{high_bits, power_table, P}
use Rattle.power.proofs.Rules.{P-rule}
use Rattle.power.specs.Log.{greatest}
use Rattle.power.specs.Stages.{guessed, guess_of}
use Rattle.power.proofs.Interpolated.{p-mono}
use Rattle.power.proofs.Search.{P-last, not_first, not_last, step-greatest}

-- ---- it never falls
steps_up : T (all_below 2047 (λ m. leb (guessed m) (guessed (suc m))))
steps_up = tt

up_to : (m n : ℕ) → m ≤ n → n ≤ 2047 → guessed m ≤ guessed n
up_to m zero h l = rw (none m h) (le_refl 0)
  where
    none : (m : ℕ) → m ≤ 0 → m ≡ 0
    none m h = omega arith
up_to m (suc n) h l =
    elim (eq-or-lt_of_le h) [
      | inl e ↦ rw e (le_refl _)
      | inr s ↦
          le_trans (up_to m n (le_of_suc-le-suc s) (omega arith))
          (leb→le (guessed n) (guessed (suc n)) (below_at 2047 (λ k. leb (guessed k) (guessed (suc k))) steps_up n (omega arith)))
    ]

-- ---- at the entry x of the place h: what lies below it has a guess of h - 1 at the most, and what
-- begins with it one of h - 1 at the least
abbrev digits : ℕ → ℕ
digits t = (t - 2 ^ 30) / 2 ^ 19

abbrev parts : ℕ → ℕ → Bool
parts h x = leb (guessed (digits (x - 1))) (h - 1) && leb h (guessed (digits x) + 1)

all-part : T (every parts 0 power_table)
unfolding power_table
all-part = tt

part : (h : ℕ) → h ≤ 2 ^ high_bits → T (parts h (P h))
unfolding power_table
part h l = every-at 0 parts power_table all-part h (omega arith)

module _ (t : ℕ) (l : 2 ^ 30 ≤ t) (u : t < 2 ^ 31) where
  abbrev g : ℕ
  g = guessed (digits t)

  guess-within : g < 2 ^ high_bits
  guess-within = lt_of_le_of_lt (up_to (digits t) 2047 (omega arith) (le_refl 2047)) (lit< tt)

  guess-from : P g ≤ t
  guess-from = elim (here_or_on t (P g)) [ inl b ↦ absurd (below b) | inr b ↦ b ]
    where
      top : P g ≤ 2 ^ 31
      top = le_trans (p-mono P-rule g (2 ^ high_bits) (le_of_lt guess-within) (le_refl (2 ^ high_bits))) (le_of_eq P-last)

      below : t < P g → ⊥
      below b =
          clash g (guessed (digits (P g - 1))) (not_first g t l b) (up_to (digits t) (digits (P g - 1)) (before t (P g) b) (last (P g) top))
          (leb→le (guessed (digits (P g - 1))) (g - 1) (and_l (leb (guessed (digits (P g - 1))) (g - 1)) (leb g (guessed (digits (P g)) + 1)) (part g (le_of_lt guess-within))))
        where
          before : (t x : ℕ) → t < x → digits t ≤ digits (x - 1)
          before t x b = omega arith

          last : (x : ℕ) → x ≤ 2 ^ 31 → digits (x - 1) ≤ 2047
          last x h = omega arith

          clash : (g h : ℕ) → 1 ≤ g → g ≤ h → h ≤ g - 1 → ⊥
          clash g h a b c = omega arith

  guess-to : t < P (min (g + 2) (2 ^ high_bits))
  guess-to = elim (here_or_on (g + 2) (2 ^ high_bits)) [ inl s ↦ rw (lower (g + 2) s) (inside s) | inr s ↦ rw (upper (g + 2) s, P-last) u ]
    where
      lower : (h : ℕ) → h < 2 ^ high_bits → min h (2 ^ high_bits) ≡ h
      lower h s = omega arith

      upper : (h : ℕ) → 2 ^ high_bits ≤ h → min h (2 ^ high_bits) ≡ 2 ^ high_bits
      upper h s = omega arith

      inside : g + 2 < 2 ^ high_bits → t < P (g + 2)
      inside s = elim (here_or_on t (P (g + 2))) [ inl b ↦ b | inr b ↦ absurd (beyond b) ]
        where
          after : (t x : ℕ) → x ≤ t → digits x ≤ digits t
          after t x b = omega arith

          clash : (g h : ℕ) → g + 2 ≤ h + 1 → h ≤ g → ⊥
          clash g h a b = omega arith

          beyond : P (g + 2) ≤ t → ⊥
          beyond b =
              clash g (guessed (digits (P (g + 2))))
              (leb→le (g + 2) (guessed (digits (P (g + 2))) + 1) (and_r (leb (guessed (digits (P (g + 2) - 1))) (g + 2 - 1)) (leb (g + 2) (guessed (digits (P (g + 2))) + 1)) (part (g + 2) (le_of_lt s))))
              (up_to (digits (P (g + 2))) (digits t) (after t (P (g + 2)) b) (omega arith))

-- ---- g is the step that t lies in, or the one before
pub record Guess (t g : ℕ) : Type 0 where
  pub within : g < 2 ^ high_bits
  pub from : P g ≤ t
  pub to : t < P (min (g + 2) (2 ^ high_bits))

pub guess-is : (t : ℕ) → 2 ^ 30 ≤ t → t < 2 ^ 31 → Guess t (guess_of t)
guess-is t l u =
    let e : digits t ≡ t / 2 ^ 19 % 2 ^ 11 = omega arith in
    subst (λ (m : ℕ). Guess t (guessed m)) e
    record { within = guess-within t l u; from = guess-from t l u; to = guess-to t l u }

-- ---- the guess, or the step after it where that begins at t or below
pub step_from : (t g : ℕ) → t < 2 ^ 31 → Guess t g → g + bool_byte (leb (P (g + 1)) t) ≡ greatest P t (2 ^ high_bits)
step_from t g u s = go (leb (P (g + 1)) t) (leb→le (P (g + 1)) t) (nleb→lt (P (g + 1)) t)
  where
    go : (b : Bool) → (T b → P (g + 1) ≤ t) → (T (not b) → t < P (g + 1)) → g + bool_byte b ≡ greatest P t (2 ^ high_bits)
    go true y n =
        let l = not_last g t s.within u (y tt) in
        let d : min (g + 2) (2 ^ high_bits) ≡ g + 1 + 1 = omega arith in
        step-greatest t (g + 1) record { within = l; from = y tt; to = subst (λ (k : ℕ). t < P k) d s.to }
    go false y n = rw add-zero (step-greatest t g record { within = s.within; from = s.from; to = n tt })
