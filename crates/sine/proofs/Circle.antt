-- The squares of sine and cosine add to 1 within 2 ^ -16, over whole numbers: with s and c the two
-- before the division by 2 ^ 24, s * s + c * c is 2 ^ 48 within 2 ^ 32.
-- Within a step of the table both go along chords (Chord.antt). One test over the 256 steps gives
-- the ends and the chords' squares; the floors cost less than 1 in s and in c. Assumes nothing.
use mathlib.Core.Path.{◌≡◌, refl, ap, ◌∙◌}
use mathlib.Core.Logic.{inl, inr}
use mathlib.Core.Bool.{Bool, ◌&&◌}
use Prim.Native.Nat.{ℕ, ◌+◌, ◌-◌, ◌*◌, ◌/◌, ◌%◌, ◌^◌, ◌≤◌, ◌<◌}
use native.Mathlib.Nat.{mul-le-mul, mul_comm, mul_assoc, mul_left_comm, add-mul, mul-add, mul-zero}
use native.Mathlib.Omega.{arith}
use lib.Dec.{T, leb, leb→le}
use lib.Ieee.Fits.{and_l, and_r}
use Rattle.lists.specs.Interpolation.{interp, interp-is, here_or_on}
use Rattle.lists.specs.Tested.{all_below, below_at}
use Rattle.sine.specs.Table.{sine_table, R}
use Rattle.sine.proofs.Chord.{Step, rising, falling, chord-low, chord-high}
use Rattle.sine.proofs.Entries.{R-rises}
use Rattle.sine.proofs.Waves.{interp-le}

-- ---- the table's steps, by one test: the sum of squares at both ends, and the step's own square
abbrev least : ℕ
least = 2 ^ 60 - 2 ^ 31

abbrev greatest : ℕ
greatest = 2 ^ 60 + 2 ^ 33

abbrev dip : ℕ
dip = 44000000000000

abbrev rise : ℕ → ℕ
rise h = R (h + 1) - R h

sound : ℕ → ℕ → ℕ → ℕ → Bool
sound a d b' d' =
    leb least (a * a + (b' + d') * (b' + d')) && leb (a * a + (b' + d') * (b' + d')) greatest
    && leb least ((a + d) * (a + d) + b' * b') && leb ((a + d) * (a + d) + b' * b') greatest
    && leb (d * d + d' * d') dip

steps-sound : T (all_below 256 (λ h. sound (R h) (rise h) (R (255 - h)) (rise (255 - h))))
unfolding sound sine_table
steps-sound = tt

step : (a d b' d' : ℕ) → T (sound a d b' d') → Step least greatest dip a d b' d'
unfolding sound
step a d b' d' t =
    record {
      start-low = leb→le least (a * a + (b' + d') * (b' + d')) (search (and_l, and_r));
      start-high = leb→le (a * a + (b' + d') * (b' + d')) greatest (search (and_l, and_r));
      end_low = leb→le least ((a + d) * (a + d) + b' * b') (search (and_l, and_r));
      end-high = leb→le ((a + d) * (a + d) + b' * b') greatest (search (and_l, and_r));
      narrow = leb→le (d * d + d' * d') dip (search (and_l, and_r));
    }

-- ---- a point of step h as the two floors leave it, m to r between its entries
mixed : (m r a d : ℕ) → m + r ≡ 16384 → m * a + r * (a + d) ≡ 16384 * a + d * r
mixed m r a d W =
    let e : (m + r) * a ≡ 16384 * a = ap (λ (z : ℕ). z * a) W in
    omega (arith, add-mul m r a, mul-add r a d, mul_comm r d)

abbrev at_point : ℕ → ℕ → ℕ
at_point k t = (R k + (R (k + 1) - R k) * t / 16384) / 64

point : (h m r : ℕ) → h < 256 → m + r ≡ 16384 → interp 14 R (h * 16384 + r) / 64 ≡ (m * R h + r * (R h + rise h)) / 1048576
point h m r H W = ap (λ (z : ℕ). z / 64) (interp-is 14 R (h * 16384 + r)) ∙ elim (here_or_on r 16384) [ inl g ↦ inside g | inr g ↦ next g ]
  where
    floors : (n a : ℕ) → (a + n / 16384) / 64 ≡ (16384 * a + n) / 1048576
    floors n a = omega arith

    inside : r < 16384 → at_point ((h * 16384 + r) / 16384) ((h * 16384 + r) % 16384) ≡ (m * R h + r * (R h + rise h)) / 1048576
    inside g =
        let p : (h * 16384 + r) / 16384 ≡ h = omega arith in
        let q : (h * 16384 + r) % 16384 ≡ r = omega arith in
        rw (p, q, mixed m r (R h) (rise h) W) (floors (rise h * r) (R h))

    next : 16384 ≤ r → at_point ((h * 16384 + r) / 16384) ((h * 16384 + r) % 16384) ≡ (m * R h + r * (R h + rise h)) / 1048576
    next g =
        let p : (h * 16384 + r) / 16384 ≡ h + 1 = omega arith in
        let q : (h * 16384 + r) % 16384 ≡ 0 = omega arith in
        let z : m ≡ 0 = omega arith in
        let w : r ≡ 16384 = omega arith in
        let e : R h + rise h ≡ R (h + 1) = omega (arith, (R-rises h H).0) in
        rw (p, q, z, w, e, mul-zero (R (h + 1 + 1) - R (h + 1))) (omega arith)

-- ---- the floors of both, in units of 2 ^ 20
square : (n : ℕ) → n * 1048576 * (n * 1048576) ≡ n * n * 1099511627776
square n = simp (mul_assoc, mul_comm, mul_left_comm) (omega arith)

squares-high : (x y s c hi : ℕ) → s * 1048576 ≤ x → c * 1048576 ≤ y → x * x + y * y ≤ 268435456 * hi → 4096 * (s * s + c * c) ≤ hi
squares-high x y s c hi hs hc h = omega (arith, square s, square c, mul-le-mul hs hs, mul-le-mul hc hc)

squares-low : (x y s c lo dip : ℕ) → x ≤ (s + 1) * 1048576 → y ≤ (c + 1) * 1048576 → 268435456 * lo ≤ x * x + y * y + 67108864 * dip
    → 4 * lo ≤ 16384 * (s * s + c * c + 2 * s + 2 * c + 2) + dip
squares-low x y s c lo dip hs hc h =
    let p : (s + 1) * (s + 1) ≡ s * s + 2 * s + 1 = simp (add-mul, mul-add, mul_comm) (omega arith) in
    let q : (c + 1) * (c + 1) ≡ c * c + 2 * c + 1 = simp (add-mul, mul-add, mul_comm) (omega arith) in
    omega (arith, square (s + 1), square (c + 1), mul-le-mul hs hs, mul-le-mul hc hc)

-- ---- the law
pub record NearCircle (s c : ℕ) : Type 0 where
  pub low : 2 ^ 48 ≤ s * s + c * c + 2 ^ 32
  pub high : s * s + c * c ≤ 2 ^ 48 + 2 ^ 21

floor-low : (x : ℕ) → x / 1048576 * 1048576 ≤ x
floor-low x = omega arith

floor-high : (x : ℕ) → x ≤ (x / 1048576 + 1) * 1048576
floor-high x = omega arith

step-circle : (h k m r s c : ℕ) → h < 256 → k ≡ 255 - h → m + r ≡ 16384
    → s ≡ (m * R h + r * (R h + rise h)) / 1048576 → c ≡ (r * R k + m * (R k + rise k)) / 1048576 → s ≤ 16777216 → c ≤ 16777216 → NearCircle s c
step-circle h k m r s c H K W S C s-le c-le =
    let x = rising m r (R h) (rise h) (R k) (rise k) in
    let y = falling m r (R h) (rise h) (R k) (rise k) in
    let t = step (R h) (rise h) (R k) (rise k) (rw K (below_at 256 (λ i. sound (R i) (rise i) (R (255 - i)) (rise (255 - i))) steps-sound h H)) in
    let p = squares-low x y s c least dip (rw S (floor-high x)) (rw C (floor-high y)) (chord-low m r (R h) (rise h) (R k) (rise k) least greatest dip W t) in
    let q = squares-high x y s c greatest (rw S (floor-low x)) (rw C (floor-low y)) (chord-high m r (R h) (rise h) (R k) (rise k) least greatest dip W t) in
    record { low = omega arith; high = omega arith }

pub near-circle : (U : ℕ) → U ≤ 2 ^ 22 → NearCircle (interp 14 R U / 64) (interp 14 R (2 ^ 22 - U) / 64)
near-circle U g = elim (here_or_on U 4194304) [ inl l ↦ go (U / 16384) (U % 16384) (omega arith) (omega arith) (omega arith) | inr l ↦ go 255 16384 (omega arith) (omega arith) (omega arith) ]
  where
    go : (h r : ℕ) → h < 256 → r ≤ 16384 → U ≡ h * 16384 + r → NearCircle (interp 14 R U / 64) (interp 14 R (4194304 - U) / 64)
    go h r H l e =
        let k = 255 - h in
        let m = 16384 - r in
        let e' : 4194304 - U ≡ k * 16384 + m = omega arith in
        let p = interp-le U g in
        let q = interp-le (4194304 - U) (omega arith) in
        step-circle h k m r (interp 14 R U / 64) (interp 14 R (4194304 - U) / 64) H refl (omega arith)
        (ap (λ (z : ℕ). interp 14 R z / 64) e ∙ point h m r H (omega arith)) (ap (λ (z : ℕ). interp 14 R z / 64) e' ∙ point k r m (omega arith) (omega arith))
        (omega arith) (omega arith)
