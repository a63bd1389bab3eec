-- Sums, differences and quotients of floats by the fractions that they equal: each is the exact
-- result, rounded once, whatever fraction it is written as. Assumes nothing.
use Rattle.std.proofs.Common.{◌≡◌, ℕ, ◌+◌, ◌-◌, ◌*◌, ◌^◌, ◌<◌, ◌≤◌, true, false, T, pos, sym, refl, ap, ◌∙◌, true≢false, le_of_eq, lt_of_lt_of_le, lt_of_le_of_lt, mul_assoc, mul_comm, add-mul, lt_of_mul-lt-mul_right, mul-lt-mul_of_pos_right, mul-pos, mul_left_comm, lit<, lit≤, le→leb, shl_lt, lt-ltb}
use lib.Ieee.{Float, nan, inf, fin, Format, binary32, up, down, round, add, sub, sum, div, of_int, of_bits, in_float}
use lib.Ieee.Fits.{down_pos}
use lib.Ieee.Exact.{HasValue, round_exact}
use lib.Ieee.Back.{round_whole}
use lib.Ieee.Scale.{round_same}
use Rattle.float_laws.specs.Signs.{sub-mul}

-- x / de is a / c and y / dd is b / d
module _ (x y de dd a b c d : ℕ) (p : x * c ≡ a * de) (q : y * d ≡ b * dd) where
  first : x * dd * (c * d) ≡ a * d * (de * dd)
  first = simp (mul_assoc, mul_comm, mul_left_comm) (simp (mul_assoc, mul_comm, mul_left_comm) at (ap (λ (z : ℕ). z * (dd * d)) p))

  second : y * de * (c * d) ≡ b * c * (de * dd)
  second = simp (mul_assoc, mul_comm, mul_left_comm) (simp (mul_assoc, mul_comm, mul_left_comm) at (ap (λ (z : ℕ). z * (de * c)) q))

  plus : (x * dd + y * de) * (c * d) ≡ (a * d + b * c) * (de * dd)
  plus = add-mul (x * dd) (y * de) (c * d) ∙ ap (λ (z : ℕ). z + y * de * (c * d)) first ∙ ap (λ (z : ℕ). a * d * (de * dd) + z) second ∙ sym (add-mul (a * d) (b * c) (de * dd))

  less : (y * de - x * dd) * (c * d) ≡ (b * c - a * d) * (de * dd)
  less = sub-mul (y * de) (x * dd) (c * d) ∙ ap (λ (z : ℕ). z - x * dd * (c * d)) second ∙ ap (λ (z : ℕ). b * c * (de * dd) - z) first ∙ sym (sub-mul (b * c) (a * d) (de * dd))

  under : 0 < de → 0 < dd → a * d < b * c → x * dd < y * de
  under E D h = lt_of_mul-lt-mul_right (c * d) (lt_of_le_of_lt (le_of_eq first) (lt_of_lt_of_le (mul-lt-mul_of_pos_right h (mul-pos E D)) (le_of_eq (sym second))))

pub add_at : (f : Format) (x y : Float) (a c b d : ℕ) → 0 < c → 0 < d → HasValue x false a c → HasValue y false b d → add f x y ≡ round f false (a * d + b * c) (c * d)
unfolding add
add_at f nan y a c b d C D v w = absurd v
add_at f (inf s) y a c b d C D v w = absurd v
add_at f (fin true m e) y a c b d C D v w = absurd (true≢false v.0)
add_at f (fin false m e) nan a c b d C D v w = absurd w
add_at f (fin false m e) (inf t) a c b d C D v w = absurd w
add_at f (fin false m e) (fin true n g) a c b d C D v w = absurd (true≢false w.0)
add_at f (fin false m e) (fin false n g) a c b d C D v w =
    round_same f false (m * up e * down g + n * up g * down e) (down e * down g) (a * d + b * c) (c * d) (mul-pos (down_pos e) (down_pos g)) (mul-pos C D)
    (plus (m * up e) (n * up g) (down e) (down g) a b c d v.1 w.1)

pub sub_at : (f : Format) (x y : Float) (a c b d : ℕ) → 0 < c → 0 < d → HasValue x false a c → HasValue y false b d → a * d < b * c → sub f x y ≡ round f true (b * c - a * d) (c * d)
unfolding sub
sub_at f nan y a c b d C D v w h = absurd v
sub_at f (inf s) y a c b d C D v w h = absurd v
sub_at f (fin true m e) y a c b d C D v w h = absurd (true≢false v.0)
sub_at f (fin false m e) nan a c b d C D v w h = absurd w
sub_at f (fin false m e) (inf t) a c b d C D v w h = absurd w
sub_at f (fin false m e) (fin true n g) a c b d C D v w h = absurd (true≢false w.0)
sub_at f (fin false m e) (fin false n g) a c b d C D v w h =
    pick (m * up e * down g) (n * up g * down e) (under (m * up e) (n * up g) (down e) (down g) a b c d v.1 w.1 (down_pos e) (down_pos g) h)
    ∙ round_same f true (n * up g * down e - m * up e * down g) (down e * down g) (b * c - a * d) (c * d) (mul-pos (down_pos e) (down_pos g)) (mul-pos C D)
    (less (m * up e) (n * up g) (down e) (down g) a b c d v.1 w.1)
  where
    pick : (A B : ℕ) → A < B → sum f false A true B (down e * down g) ≡ round f true (B - A) (down e * down g)
    pick A B l = rw (lt-ltb A B l)

-- ---- F / 2 ^ 24, and small whole numbers
div-by : (x : Float) (F : ℕ) → HasValue x false F 1 → div binary32 x (fin false 1 (pos 24)) ≡ round binary32 false F 16777216
unfolding div
div-by nan F v = absurd v
div-by (inf s) F v = absurd v
div-by (fin true m e) F v = absurd (true≢false v.0)
div-by (fin false m e) F v =
    round_same binary32 false (m * up e * 1) (16777216 * down e) F 16777216 (mul-pos (lit< tt) (down_pos e)) (lit< tt)
    (ap (λ (z : ℕ). z * 16777216) v.1 ∙ mul_assoc F (down e) 16777216 ∙ ap (λ (z : ℕ). F * z) (mul_comm (down e) 16777216))

const-24 : of_bits binary32 1266679808 ≡ fin false 1 (pos 24)
unfolding of_bits
const-24 = refl

pub whole-value : (n : ℕ) → n ≤ 16777216 → HasValue (of_int binary32 (pos n)) false n 1
unfolding of_int
whole-value n h = round_whole binary32 false n h

pub fraction-is : (F : ℕ) → F ≤ 16777216 → div binary32 (of_int binary32 (pos F)) (of_bits binary32 1266679808) ≡ round binary32 false F 16777216
fraction-is F h = ap (λ (y : Float). div binary32 (of_int binary32 (pos F)) y) const-24 ∙ div-by (of_int binary32 (pos F)) F (whole-value F h)

pub fraction-value : (F : ℕ) → F < 16777216 → HasValue (round binary32 false F 16777216) false F 16777216
fraction-value F h = round_exact binary32 false F 16777216 F 125 (lit< tt) h (lt_of_lt_of_le (shl_lt {a = F} 24 125 h) (lit≤ tt)) (sym (mul_assoc F (2 ^ 125) 16777216))

pub in-float : (n : ℕ) → n ≤ 16777216 → T (in_float binary32 (pos n))
unfolding in_float
in-float n h = le→leb n 16777216 h
