-- What `find` computes: the step that t lies in, which is within the table, since P begins at
-- 2 ^ 30 and ends at 2 ^ 31; the place within the step, and the sum of both.
-- Assumes nothing.
use mathlib.Core.Path.{◌≡◌, refl, subst}
use mathlib.Core.Logic.{inl, inr}
use Prim.Native.Nat.{ℕ, suc, ◌+◌, ◌-◌, ◌*◌, ◌/◌, ◌%◌, ◌^◌, ◌≤◌, ◌<◌}
use native.Mathlib.Nat.{eq-zero-or-pos, eq-or-lt_of_le, le_trans, le_of_lt, lt_of_le_of_lt, not-le_of_lt}
use native.Mathlib.Omega.{arith}
use lib.Pow.{pow_pos}
use Rattle.lists.specs.Interpolation.{here_or_on}
use Rattle.power.specs.Table.{high_bits, low_bits, power_table, P, I}
use Rattle.power.proofs.Rules.{P-rule}
use Rattle.power.specs.Log.{greatest}
use Rattle.power.proofs.Interpolated.{p-mono, p-top}
use Rattle.power.proofs.Greatest.{Greatest, is-greatest, greatest-unique}
use Rattle.power.proofs.Division.{F-lt, found-by-division}

P-first : P 0 ≡ 2 ^ 30
unfolding power_table
P-first = refl

pub P-last : P (2 ^ high_bits) ≡ 2 ^ 31
unfolding power_table
P-last = refl

pub not_first : (h t : ℕ) → 2 ^ 30 ≤ t → t < P h → 1 ≤ h
not_first h t l g = elim (eq-zero-or-pos h) [ inl e ↦ absurd (clash (subst (λ (k : ℕ). t < P k) e g)) | inr z ↦ z ]
  where
    clash : t < P 0 → ⊥
    clash k = let e = P-first in omega arith

-- the step that t lies in
pub record Step (t h : ℕ) : Type 0 where
  pub within : h < 2 ^ high_bits
  pub from : P h ≤ t
  pub to : t < P (h + 1)

pub step-greatest : (t h : ℕ) → Step t h → h ≡ greatest P t (2 ^ high_bits)
step-greatest t h s =
    greatest-unique P t (2 ^ high_bits) h
    record {
      under = s.within;
      fits = s.from;
      most = λ G g v. elim (here_or_on G (h + 1)) [ inl l ↦ omega arith | inr l ↦ absurd (not-le_of_lt s.to (le_trans (p-mono P-rule (h + 1) G l (le_of_lt g)) v)) ];
    }

-- the step is not the table's end, since P ends at 2 ^ 31
pub not_last : (h t : ℕ) → h < 2 ^ high_bits → t < 2 ^ 31 → P (h + 1) ≤ t → h + 1 < 2 ^ high_bits
not_last h t l u g = elim (eq-or-lt_of_le l) [ inl e ↦ absurd (clash (subst (λ (k : ℕ). P k ≤ t) (last e) g)) | inr z ↦ next z ]
  where
    last : suc h ≡ 2 ^ high_bits → h + 1 ≡ 2 ^ high_bits
    last e = omega arith

    next : suc h < 2 ^ high_bits → h + 1 < 2 ^ high_bits
    next e = omega arith

    clash : P (2 ^ high_bits) ≤ t → ⊥
    clash k = let e = P-last in omega arith

pub step_is : (t h : ℕ) → 2 ^ 30 ≤ t → t < 2 ^ 31 → h ≡ greatest P t (2 ^ high_bits) → Step t h
step_is t h l u e =
    let r : Greatest P t (2 ^ high_bits) h = rw e (is-greatest P t (2 ^ high_bits) 0 (pow_pos high_bits) (rw P-first l)) in
    record {
      within = r.under;
      from = r.fits;
      to = elim (here_or_on t (P (h + 1))) [ inl b ↦ b | inr b ↦ absurd (past (r.most (h + 1) (not_last h t r.under u b) b)) ];
    }
  where
    past : h + 1 ≤ h → ⊥
    past b = omega arith

-- t lies in the step h, whose entries are a and b
pub record Between (t h a b : ℕ) : Type 0 where
  pub small : t < 2 ^ 31
  pub step : Step t h
  pub left : a ≡ P h
  pub right : b ≡ P (h + 1)

module _ {t h a b : ℕ} (s : Between t h a b) where
  pub a-le : a ≤ t
  a-le = rw s.left s.step.from

  pub a-lt-b : a < b
  a-lt-b = lt_of_le_of_lt a-le (rw s.right s.step.to)

  high-bits : h * 2 ^ low_bits % 2 ^ 32 ≡ h * 2 ^ low_bits
  high-bits = let u = s.step.within in omega arith

  pub place-some : 0 < t - a + 1
  place-some = omega arith

  pub place_inside : t - a + 1 ≤ b - a
  place_inside = let u : t < b = rw s.right s.step.to in let l = a-le in omega arith

  -- the table goes from 2 ^ 30 to 2 ^ 31
  pub place-wide : b - a ≤ 2 ^ 30
  place-wide =
      let l = s.step.within in
      let u : a ≡ P h = s.left in
      let v : b ≡ P (h + 1) = s.right in
      let x = p-mono P-rule 0 h (omega arith) (le_of_lt l) in
      let y = p-top P-rule (h + 1) (omega arith) in
      let z = P-first in
      omega arith

  pub sum_fits : h * 2 ^ low_bits % 2 ^ 32 + ((t - a + 1) * 2 ^ low_bits - 1) / (b - a) < 2 ^ 24
  sum_fits = rw (high-bits, s.left, s.right) (F-lt P-rule t h s.step.within s.step.from s.step.to)

  pub is_found : h * 2 ^ low_bits % 2 ^ 32 + ((t - a + 1) * 2 ^ low_bits - 1) / (b - a) ≡ greatest I t (2 ^ 24)
  is_found = rw (high-bits, s.left, s.right) (found-by-division P-rule t h s.step.within s.step.from s.step.to)
