-- What a caller may know of a count: it never falls as the float rises, it is at most 2 ^ 64 - 1,
-- floor ≤ x < floor + 1 and ceil - 1 < x ≤ ceil. Assumes nothing.
use mathlib.Core.Path.{◌≡◌, refl, sym}
use mathlib.Core.Bool.{Bool, true, false}
use Prim.Native.Nat.{ℕ, suc, ◌*◌, ◌/◌, ◌≤◌, ◌<◌, zero-le}
use native.Mathlib.Nat.{le_trans, le_of_eq, le_refl, min-eq_left, min-le_right, zero-mul, mul-one, le_of_mul-le-mul_right, mul-le-mul_right, min-le_left}
use native.Mathlib.Omega.{arith}
use lib.Dec.{T, lit≤}
use lib.Ieee.{Float, nan, inf, fin, binary32, down, le, lt, eq, of_bits, of_fields, odd}
use lib.Ieee as Ieee
use lib.Ieee.Fits.{down_pos}
use Rattle.float_laws.specs.Signs.{Ord, ord-of-le}
use Rattle.float32.specs.Value.{above, below, negative}
use Rattle.counts.specs.Counts.{whole, counted, count_of, floor_count, ceil_count}
use Rattle.float32.proofs.Floor.{below-pos}
use Rattle.counts.proofs.Whole.{floor-at-most, floor-next, ceil-at-least, ceil-least, whole-mono, whole-one, whole_le, floor-ceil, ceil-floor}

counted-most : (s : Bool) (n : ℕ) → counted s n ≤ 18446744073709551615
counted-most true n = zero-le
counted-most false n = min-le_right n 18446744073709551615

counted-mono : (s : Bool) (m n : ℕ) → m ≤ n → counted s m ≤ counted s n
counted-mono true m n h = zero-le
counted-mono false m n h = omega arith

pub count_most : (up : Bool) (x : Float) → count_of up x ≤ 18446744073709551615
unfolding count_of
count_most up x = counted-most (negative x) (whole up (above x) (below x))

pub count-infinity : (up : Bool) → count_of up (inf false) ≡ 18446744073709551615
unfolding count_of
count-infinity false = refl
count-infinity true = refl

-- ---- the order of floats
zero_of : (a d : ℕ) → 0 < d → a * d ≡ 0 → a ≡ 0
zero_of a d z e = let h : a ≤ 0 = le_of_mul-le-mul_right (le_trans (le_of_eq e) (le_of_eq (sym (zero-mul d)))) z in omega arith

fin-mono : (up : Bool) (s t : Bool) (a b c d : ℕ) → 0 < b → 0 < d → Ord s (a * d) t (c * b) → counted s (whole up a b) ≤ counted t (whole up c d)
fin-mono up false false a b c d z y h = counted-mono false (whole up a b) (whole up c d) (whole-mono up a b c d z y h)
fin-mono up false true a b c d z y h = let w = whole_le up a b z in let e = zero_of a d y h.0 in omega arith
fin-mono up true t a b c d z y h = zero-le

pub count-never-falls : (up : Bool) (x y : Float) → T (le x y) → count_of up x ≤ count_of up y
unfolding count_of le lt eq
count-never-falls up nan y h = absurd h
count-never-falls up (inf true) nan h = absurd h
count-never-falls up (inf true) (inf t) h = zero-le
count-never-falls up (inf true) (fin t n d) h = zero-le
count-never-falls up (inf false) nan h = absurd h
count-never-falls up (inf false) (inf true) h = absurd h
count-never-falls up (inf false) (inf false) h = le_refl (count_of up (inf false))
count-never-falls up (inf false) (fin t n d) h = absurd h
count-never-falls up (fin s m e) nan h = absurd h
count-never-falls up (fin s m e) (inf true) h = absurd h
count-never-falls up (fin s m e) (inf false) h = le_trans (count_most up (fin s m e)) (le_of_eq (sym (count-infinity up)))
count-never-falls up (fin s m e) (fin t n d) h = fin-mono up s t (m * Ieee.up e) (down e) (n * Ieee.up d) (down d) (down_pos e) (down_pos d) (ord-of-le s m e t n d h)

-- up to 1,024, the last entry of the Gaussian table
count-1024 : (up : Bool) → count_of up (of_bits binary32 0x4480_0000) ≡ 1024
unfolding count_of of_bits of_fields odd
count-1024 false = refl
count-1024 true = refl

pub count-to-1024 : (up : Bool) (x : Float) → T (le x (of_bits binary32 0x4480_0000)) → count_of up x ≤ 1024
count-to-1024 up x h = le_trans (count-never-falls up x (of_bits binary32 0x4480_0000) h) (le_of_eq (count-1024 up))

-- ---- of an x that is not negative, as the fraction above x / below x
module _ (x : Float) (sign : negative x ≡ false) where
  pub floor-under-value : floor_count x * below x ≤ above x
  unfolding count_of
  floor-under-value = rw sign (le_trans (mul-le-mul_right (below x) (min-le_left (above x / below x) 18446744073709551615)) (floor-at-most (above x) (below x)))

  pub ceil-least-over-value : (n : ℕ) → above x ≤ n * below x → ceil_count x ≤ n
  unfolding count_of
  ceil-least-over-value n h = rw sign (le_trans (min-le_left (whole true (above x) (below x)) 18446744073709551615) (ceil-least (above x) (below x) n (below-pos x) h))

  -- and that is no larger than the largest count
  module _ (room : above x ≤ 18446744073709551615 * below x) where
    uncapped : (up : Bool) → count_of up x ≡ whole up (above x) (below x)
    unfolding count_of
    uncapped up =
        rw sign
        (min-eq_left
        (le_trans (whole-mono up (above x) (below x) 18446744073709551615 1 (below-pos x) (lit≤ tt) (le_trans (le_of_eq (mul-one (above x))) room)) (le_of_eq (whole-one up 18446744073709551615))))

    pub next-over-value : above x < suc (floor_count x) * below x
    next-over-value = rw (uncapped false) (floor-next (above x) (below x) (below-pos x))

    pub ceil-over-value : above x ≤ ceil_count x * below x
    ceil-over-value = rw (uncapped true) (ceil-at-least (above x) (below x) (below-pos x))

pub floor-at-most-ceil : (x : Float) → floor_count x ≤ ceil_count x
unfolding count_of
floor-at-most-ceil x = counted-mono (negative x) (whole false (above x) (below x)) (whole true (above x) (below x)) (floor-ceil (above x) (below x) (below-pos x))

pub ceil-at-most-next : (x : Float) → ceil_count x ≤ suc (floor_count x)
unfolding count_of
ceil-at-most-next x = go (negative x) (ceil-floor (above x) (below x) (below-pos x))
  where
    go : (s : Bool) {a b : ℕ} → a ≤ suc b → counted s a ≤ suc (counted s b)
    go true h = zero-le
    go false h = omega arith
