-- What the order of two finite values says of their signs and sizes as fractions. Assumes nothing.
use Rattle.std.specs.Prelude.{◌≡◌, Bool, true, false, ◌&&◌, ◌||◌, ℕ, ◌-◌, ◌*◌, ◌≤◌, ◌<◌, T, ltb, eqb, ℤ}
use Rattle.std.proofs.Common.{sym, ap, ◌∙◌, le_of_eq, le_of_lt, mul_comm, ltb→lt, eqb→eq}
use Rattle.std.proofs.Math.Nat.{mul-sub}
use Rattle.std.specs.Float.{fin, Format}
use Rattle.std.specs.Float.Ieee.{up, down, le, neg, round}
use Rattle.std.specs.Float.Ieee.Fits.{and_l, and_r}
use Rattle.float_laws.specs.Round.{round-neg}

-- what ±x ≤ ±y says of the magnitudes
abbrev pub Ord : Bool → ℕ → Bool → ℕ → Type 0
Ord false x false y = x ≤ y
Ord false x true y = (x ≡ 0) × (y ≡ 0)
Ord true x false y = Unit {0}
Ord true x true y = y ≤ x

pub sub-mul : (a b c : ℕ) → (a - b) * c ≡ a * c - b * c
sub-mul a b c = mul_comm (a - b) c ∙ mul-sub c a b ∙ ap (λ (z : ℕ). z - c * b) (mul_comm c a) ∙ ap (λ (z : ℕ). a * c - z) (mul_comm c b)

-- ---- what `le` says
either : (a b : ℕ) (u v z : Bool) → (T u → a < b) → (T v → a ≡ b) → T (u || (v && z)) → a ≤ b
either a b true v z f g t = le_of_lt (f tt)
either a b false true z f g t = le_of_eq (g tt)
either a b false false z f g t = absurd t

pub le-or-eq : (a b : ℕ) (z : Bool) → T (ltb a b || (eqb a b && z)) → a ≤ b
le-or-eq a b z = either a b (ltb a b) (eqb a b) z (ltb→lt a b) (eqb→eq a b)

ge-or-eq : (a b : ℕ) (z : Bool) → T (ltb b a || (eqb a b && z)) → b ≤ a
ge-or-eq a b z = either b a (ltb b a) (eqb a b) z (ltb→lt b a) (λ t. sym (eqb→eq a b t))

both_zero : (a b : ℕ) → T (eqb a b && (false || eqb a 0)) → (a ≡ 0) × (b ≡ 0)
both_zero a b t =
    let e = eqb→eq a b (and_l (eqb a b) (eqb a 0) t) in
    let z = eqb→eq a 0 (and_r (eqb a b) (eqb a 0) t) in
    (z, sym e ∙ z)

pub ord-of-le : (s : Bool) (m : ℕ) (e : ℤ) (t : Bool) (n : ℕ) (d : ℤ) → T (le (fin s m e) (fin t n d)) → Ord s (m * up e * down d) t (n * up d * down e)
unfolding le
ord-of-le false m e false n d h = le-or-eq (m * up e * down d) (n * up d * down e) true h
ord-of-le false m e true n d h = both_zero (m * up e * down d) (n * up d * down e) h
ord-of-le true m e false n d h = tt
ord-of-le true m e true n d h = ge-or-eq (m * up e * down d) (n * up d * down e) true h

-- ---- the sign of a rounding
pub neg-round : (f : Format) (n d : ℕ) → neg (round f false n d) ≡ round f true n d
neg-round f n d = sym (round-neg f n d)
