-- A level row, one of a single number: numbers that are equal as floats compare have one gain, to
-- the bit, since gains never fall and none is a negative zero. So the gain of the first entry
-- serves for all of them. Assumes nothing.
use mathlib.Core.Path.{◌≡◌, refl, sym, ◌∙◌}
use mathlib.Core.Bool.{Bool, true, false, not, cond, ◌&&◌, ◌||◌, beq, true≢false}
use mathlib.Core.List.{List}
use Prim.Native.Nat.{ℕ, ◌+◌, ◌-◌, ◌*◌, ◌/◌, ◌%◌, ◌^◌, ◌<◌}
use native.Mathlib.Decide.{dec_lt}
use native.Mathlib.Omega.{arith}
use lib.Dec.{T, ltb, eqb, eqb→eq, eqb_refl}
use lib.ListN.{length, get_or}
use lib.Ieee.{Float, nan, inf, fin, binary32, up, down, level, lt, eq, le, ne, odd, is_nan}
use lib.Seq.{ext_get_or}
use Rattle.lists.specs.Maps.{map_range, between, between_in, between-high, length-map_range, get_or-map_range}
use Rattle.float_laws.specs.Units.{sign}
use Rattle.float_laws.specs.Order.{le-antisymm-f, eq→same}
use Rattle.float_laws.specs.Round.{odd-kind}
use Rattle.float32.specs.Value.{moved}
use Rattle.power.specs.Table.{low_bits, P, I}
use Rattle.power.specs.Power.{positive_zero, largest, power_at, power_of, E2}
use Rattle.decibels.specs.Gain.{gain_of}
use Rattle.decibels.proofs.Gains.{gain-never-falls, gain-number}

-- ---- equality of floats
both : (p q : Bool) → T (p && q) → T p × T q
both true q h = (tt, h)
both false q h = absurd h

join : (p q : Bool) → T p → T q → T (p && q)
join true q h k = k
join false q h k = absurd h

like-back : (s t z : Bool) → T (beq s t || z) → T (beq t s || z)
like-back true true z h = tt
like-back false false z h = tt
like-back true false z h = h
like-back false true z h = h

level-back : (s t : Bool) (a b : ℕ) → T (level s a t b) → T (level t b s a)
level-back s t a b h =
    let p = both (eqb a b) (beq s t || eqb a 0) h in
    let z : a ≡ b = eqb→eq a b p.0 in
    join (eqb b a) (beq t s || eqb b 0) (rw z (eqb_refl b)) (like-back s t (eqb b 0) (rw z at p.1))

equal-back : (x y : Float) → T (eq x y) → T (eq y x)
unfolding eq
equal-back nan y h = absurd h
equal-back (inf s) nan h = absurd h
equal-back (inf true) (inf true) h = tt
equal-back (inf true) (inf false) h = absurd h
equal-back (inf false) (inf true) h = absurd h
equal-back (inf false) (inf false) h = tt
equal-back (inf s) (fin t n d) h = absurd h
equal-back (fin s m e) nan h = absurd h
equal-back (fin s m e) (inf t) h = absurd h
equal-back (fin s m e) (fin t n d) h = level-back s t (m * up e * down d) (n * up d * down e) h

equal-le : (x y : Float) → T (eq x y) → T (le x y)
unfolding le
equal-le x y h = go (lt x y)
  where
    go : (b : Bool) → T (b || eq x y)
    go true = tt
    go false = h

-- ---- gains
sign-power : (N F : ℕ) → sign (power_at low_bits P N F) ≡ false
unfolding power_at
sign-power N F = go (ltb N 2) (ltb N 256)
  where
    go : (a b : Bool) → sign (cond a positive_zero (cond b (odd 24 false (I F / 128) (N - 2) 149) largest)) ≡ false
    go true b = refl
    go false true = (odd-kind 24 false (I F / 128) (N - 2) 149).0
    go false false = refl

sign-E2 : (x : Float) → sign (E2 x) ≡ false
unfolding E2 power_of
sign-E2 x = go (is_nan x)
  where
    go : (b : Bool) → sign (cond b positive_zero (power_at low_bits P (moved 128 x / 2 ^ 24) (moved 128 x % 2 ^ 24))) ≡ false
    go true = refl
    go false = sign-power _ _

pub gain-same : (x y : Float) → T (eq x y) → gain_of x ≡ gain_of y
gain-same x y h =
    eq→same binary32 (gain_of x) (gain_of y) (gain-number x) (gain-number y) (sign-E2 _ ∙ sym (sign-E2 _))
    (le-antisymm-f binary32 (gain_of x) (gain_of y) (gain-number x) (gain-number y) (gain-never-falls x y (equal-le x y h)) (gain-never-falls y x (equal-le y x (equal-back x y h))))

-- ---- the row
-- the first k entries are the number, as floats compare
abbrev pub AllEqual : List Float → Float → ℕ → Type 0
AllEqual row first k = (j : ℕ) → j < k → T (eq (get_or row j nan) first)

pub equal-more : (row : List Float) (first : Float) (k : ℕ) (other : Bool) → (other ≡ false → AllEqual row first k) → (other || ne (get_or row k nan) first) ≡ false
    → AllEqual row first (k + 1)
unfolding ne
equal-more row first k other before now j h = go other (eq (get_or row k nan) first) before now (dec_lt j k) (λ b e. rw e b)
  where
    go : (a b : Bool) → (a ≡ false → AllEqual row first k) → (a || not b) ≡ false → Dec (j < k) → (T b → j ≡ k → T (eq (get_or row j nan) first)) → T (eq (get_or row j nan) first)
    go true b f n w at = absurd (true≢false n)
    go false false f n w at = absurd (true≢false n)
    go false true f n (yes p) at = f refl j p
    go false true f n (no p) at = at tt (omega arith)

-- the gain of the first entry at all of them
pub level-gains : (row : List Float) (count : ℕ) → AllEqual row (get_or row 0 nan) count → map_range (λ k held. gain_of (get_or row 0 nan)) 0 count row ≡ map_range (λ k db. gain_of db) 0 count row
level-gains row count all = ext_get_or nan _ _ (length-map_range (λ k held. gain_of (get_or row 0 nan)) 0 count row ∙ sym (length-map_range (λ k db. gain_of db) 0 count row)) at
  where
    at : (k : ℕ) → k < length (map_range (λ k held. gain_of (get_or row 0 nan)) 0 count row)
        → get_or (map_range (λ k held. gain_of (get_or row 0 nan)) 0 count row) k nan ≡ get_or (map_range (λ k db. gain_of db) 0 count row) k nan
    at k h =
        let l : k < length row = simp length-map_range at h in
        get_or-map_range (λ k held. gain_of (get_or row 0 nan)) 0 count row k nan l ∙ go (dec_lt k count) ∙ sym (get_or-map_range (λ k db. gain_of db) 0 count row k nan l)
      where
        go : Dec (k < count) → between 0 count (λ k held. gain_of (get_or row 0 nan)) k (get_or row k nan) ≡ between 0 count (λ k db. gain_of db) k (get_or row k nan)
        go (yes p) =
            between_in (λ k held. gain_of (get_or row 0 nan)) 0 count k (get_or row k nan) (omega arith) p ∙ sym (gain-same _ _ (all k p))
            ∙ sym (between_in (λ k db. gain_of db) 0 count k (get_or row k nan) (omega arith) p)
        go (no p) =
            between-high (λ k held. gain_of (get_or row 0 nan)) 0 count k (get_or row k nan) (omega arith)
            ∙ sym (between-high (λ k db. gain_of db) 0 count k (get_or row k nan) (omega arith))
