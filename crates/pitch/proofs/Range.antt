-- The frequency of a note never falls as the note or its tuning rises, since each operation keeps
-- the order. So for the notes 0..127 and tunings -48..48 it lies between those of the two ends,
-- which antt computes: it is finite and from 1/2 to 2 ^ 18 Hz, hence positive and normal, where L2
-- is defined. Assumes nothing.
use mathlib.Core.Path.{◌≡◌, subst₂}
use mathlib.Core.Bool.{true, false}
use Prim.Native.Nat.{ℕ, ◌+◌, ◌*◌, ◌^◌, ◌≤◌}
use native.Mathlib.Nat.{le_trans, mul-le-mul_right}
use native.Mathlib.Omega.{arith}
use lib.Dec.{T, lit≤}
use lib.IntN.{pos, negsuc}
use lib.Count.{count_trailing_zeros}
use lib.Ieee.{Float, fin, Format, binary32, prec, low, le, lt, of_bits, of_int, add, sub, mul, div, neg, sum, round, size, span, climb, units, odd, is_nan, fits}
use lib.Ieee.Fits.{and_i}
use lib.Ieee.Positive.{positive}
use lib.Ieee.Scale.{overflow}
use Rattle.float_laws.specs.Units.{number, real, key, key→le, real-number}
use Rattle.float_laws.specs.Order.{le-trans-f, le-refl-f, lt-of-lt-of-le-f}
use Rattle.float_laws.specs.Ops.{mul-comm-f}
use Rattle.float_laws.specs.Mono.{add-mono, add-number, sub-mono, mul-number}
use Rattle.float_laws.specs.Bounds.{real-between}
use Rattle.float_laws.specs.Exact.{mag-whole, sign-whole, real-whole}
use Rattle.float_laws.specs.Inf.{mul-by, div-by}
use Rattle.float32.specs.Value.{moved}
use Rattle.lists.specs.Interpolation.{interp}
use Rattle.power.specs.Table.{power_table}
use Rattle.power.specs.Power.{positive_zero, largest, power_at, power_of, E2}
use Rattle.power.specs.Log.{least_normal, positive_normal}
use Rattle.power.proofs.Rising.{E2-mono}
use Rattle.power.proofs.Range.{E2-real}
use Rattle.pitch.specs.Pitch.{a4_note, a4_hertz, notes_per_octave, note_hertz}

-- ---- whole numbers as floats are in their order
whole-key : (f : Format) (n : ℕ) → n ≤ 2 ^ prec f → key f (of_int f (pos n)) ≡ overflow f + n * 2 ^ low f
whole-key f n h = rw (sign-whole f n h, mag-whole f n h)

pub whole_le : (f : Format) (m n : ℕ) → m ≤ n → n ≤ 2 ^ prec f → T (le (of_int f (pos m)) (of_int f (pos n)))
whole_le f m n h k =
    let l = le_trans h k in
    key→le f (of_int f (pos m)) (of_int f (pos n)) (real-number f (of_int f (pos m)) (real-whole f m l)) (real-number f (of_int f (pos n)) (real-whole f n k))
    (omega (arith, whole-key f m l, whole-key f n k, mul-le-mul_right (2 ^ low f) h))

-- ---- the steps
abbrev note : ℕ → Float
note n = of_int binary32 (pos n)

abbrev LEAST : Float
LEAST = fin true 3 (pos 4)

abbrev MOST : Float
MOST = fin false 3 (pos 4)

few : (n : ℕ) → n ≤ 127 → n ≤ 2 ^ 24
few n h = le_trans h (lit≤ tt)

note-real : (n : ℕ) → n ≤ 127 → T (real binary32 (note n))
note-real n h = real-whole binary32 n (few n h)

-- a tuning: a finite value from -48 to 48
pub record Tuning (t : Float) : Type 0 where
  pub finite : T (real binary32 t)
  pub least : T (le LEAST t)
  pub most : T (le t MOST)

sum_mono : (m n : ℕ) → m ≤ n → n ≤ 127 → (t u : Float) → T (real binary32 t) → T (real binary32 u) → T (le t u)
    → T (le (add binary32 (note m) t) (add binary32 (note n) u))
sum_mono m n h k t u p q l = add-mono binary32 (note m) (note n) t u (note-real m (le_trans h k)) (note-real n k) p q (whole_le binary32 m n h (few n k)) l

sum-real : (n : ℕ) → n ≤ 127 → (t : Float) → Tuning t → T (real binary32 (add binary32 (note n) t))
unfolding of_int add sum round size span climb units odd count_trailing_zeros fits
sum-real n h t r =
    real-between binary32 (add binary32 (note 0) LEAST) (add binary32 (note n) t) (add binary32 (note 127) MOST) (add-number binary32 (note n) t (note-real n h) r.finite) tt tt
    (sum_mono 0 n (omega arith) h LEAST t tt r.finite r.least)
    (sum_mono n 127 h (lit≤ tt) t MOST r.finite tt r.most)

octave-above : T (positive notes_per_octave)
unfolding of_bits
octave-above = tt

hertz-above : T (positive a4_hertz)
unfolding of_bits
hertz-above = tt

a4-real : T (real binary32 a4_note)
unfolding of_bits fits
a4-real = tt

-- from the sum on
rest-mono : (x y : Float) → T (real binary32 x) → T (real binary32 y) → T (le x y)
    → T (le (mul binary32 a4_hertz (E2 (div binary32 (sub binary32 x a4_note) notes_per_octave))) (mul binary32 a4_hertz (E2 (div binary32 (sub binary32 y a4_note) notes_per_octave))))
rest-mono x y p q h =
    let a = le-refl-f binary32 a4_note (real-number binary32 a4_note a4-real) in
    let s = sub-mono binary32 x y a4_note a4_note p q a4-real a4-real h a in
    let e = E2-mono _ _ (div-by binary32 notes_per_octave octave-above _ _ s) in
    subst₂ (λ (a b : Float). T (le a b)) (mul-comm-f binary32 _ a4_hertz) (mul-comm-f binary32 _ a4_hertz) (mul-by binary32 a4_hertz hertz-above _ _ e)

pub hertz-never-falls : (m n : ℕ) → m ≤ n → n ≤ 127 → (t u : Float) → Tuning t → Tuning u → T (le t u) → T (le (note_hertz m t) (note_hertz n u))
hertz-never-falls m n h k t u r s l = rest-mono _ _ (sum-real m (le_trans h k) t r) (sum-real n k u s) (sum_mono m n h k t u r.finite s.finite l)

-- ---- the two ends
abbrev half : Float
half = fin false 1 (negsuc 0)

abbrev most_hertz : Float
most_hertz = fin false 1 (pos 18)

least-tuning : Tuning LEAST
unfolding fits le
least-tuning = record { finite = tt; least = tt; most = tt }

most-tuning : Tuning MOST
unfolding fits le
most-tuning = record { finite = tt; least = tt; most = tt }

lowest-hertz : T (le half (note_hertz 0 LEAST))
unfolding E2 power_of power_at moved interp power_table odd count_trailing_zeros is_nan of_bits of_int add sub mul div neg sum round size span climb units le
lowest-hertz = tt

highest-hertz : T (le (note_hertz 127 MOST) most_hertz)
unfolding E2 power_of power_at moved interp power_table odd count_trailing_zeros is_nan of_bits of_int add sub mul div neg sum round size span climb units le
highest-hertz = tt

a4-hertz-real : T (real binary32 a4_hertz)
unfolding of_bits fits
a4-hertz-real = tt

any-number : (x : Float) → T (number binary32 (mul binary32 a4_hertz (E2 x)))
any-number x = mul-number binary32 a4_hertz (E2 x) a4-hertz-real (E2-real x)

module _ (n : ℕ) (h : n ≤ 127) (t : Float) (r : Tuning t) where
  pub hertz-number : T (number binary32 (note_hertz n t))
  hertz-number = any-number _

  pub hertz-low : T (le half (note_hertz n t))
  unfolding fits
  hertz-low = le-trans-f binary32 half (note_hertz 0 LEAST) (note_hertz n t) tt (any-number _) hertz-number lowest-hertz (hertz-never-falls 0 n (omega arith) h LEAST t least-tuning r r.least)

  pub hertz-high : T (le (note_hertz n t) most_hertz)
  unfolding fits
  hertz-high = le-trans-f binary32 (note_hertz n t) (note_hertz 127 MOST) most_hertz hertz-number (any-number _) tt (hertz-never-falls n 127 h (lit≤ tt) t MOST r most-tuning r.most) highest-hertz

  pub hertz-real : T (real binary32 (note_hertz n t))
  unfolding fits
  hertz-real = real-between binary32 half (note_hertz n t) most_hertz hertz-number tt tt hertz-low hertz-high

  pub hertz-normal : T (positive_normal (note_hertz n t))
  unfolding fits le
  hertz-normal =
      and_i (le least_normal (note_hertz n t)) (le (note_hertz n t) largest)
      (le-trans-f binary32 least_normal half (note_hertz n t) tt tt hertz-number tt hertz-low)
      (le-trans-f binary32 (note_hertz n t) most_hertz largest hertz-number tt tt hertz-high tt)

  pub hertz-positive : T (lt positive_zero (note_hertz n t))
  unfolding fits lt
  hertz-positive = lt-of-lt-of-le-f binary32 positive_zero half (note_hertz n t) tt tt hertz-number tt hertz-low
