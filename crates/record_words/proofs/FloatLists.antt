-- Floats that follow one another in bytes: they are read back to the bit, and bytes whose floats
-- are no NaN are written as they were read. Assumes nothing.
use mathlib.Core.Path.{◌≡◌, refl, sym, ap, ◌∙◌}
use mathlib.Core.Bool.{not}
use mathlib.Core.List.{List, ◌++◌}
use Prim.Native.Nat.{ℕ, zero, suc, ◌+◌, ◌*◌, ◌≤◌, ◌<◌, ◌^◌}
use native.Mathlib.Nat.{add-zero}
use native.Mathlib.Omega.{arith}
use lib.Dec.{T}
use lib.Ieee.{Float, nan, is_nan, binary32, fits, of_bits, to_bits}
use lib.Ieee.Bits.{of_bits-to_bits, to_bits-lt, to_bits-of_bits}
use lib.ListN.{length, get_or, take, drop, length-drop}
use lib.Seq.{take-add, drop-drop, ext_get_or}
use Rattle.lists.specs.Totals.{All, all_drop}
use Rattle.lists.specs.Maps.{tabulate, length-tab, get_d_tabulate}
use Rattle.lists.specs.Bytes.{Byte, number_at, length-bytes, number-drop, number-back}
use Rattle.lists.specs.Bytes.{number-below, bytes_back}
use Rattle.lists.specs.Pieces.{pieces, pieces_of, pieces-length, pieces-back, pieces-counted}
use Rattle.lists.specs.Pieces.{piece-at-place}
use Rattle.record_words.specs.Floats.{float_bytes, float_at, floats_bytes, floats_of}

pub float-length : (x : Float) → length (float_bytes x) ≡ 4
float-length x = length-bytes 4 (to_bits binary32 x)

pub floats-length : (xs : List Float) → length (floats_bytes xs) ≡ 4 * length xs
floats-length = pieces-length float_bytes 4 float-length

-- the float at each place
pub float-at-place :
    (bs : List ℕ) (at k n : ℕ) → k < n
    → get_or (floats_of (drop at bs) n) k nan ≡ float_at bs (at + 4 * k)
float-at-place bs at k n h =
    piece-at-place (λ rest. float_at rest 0) 4 nan (drop at bs) n k h
    ∙ ap (λ (l : List ℕ). float_at l 0) (drop-drop (4 * k) at bs)
    ∙ ap (of_bits binary32)
    (number-drop bs (at + 4 * k) 0 4
    ∙ ap (λ (m : ℕ). number_at bs m 4) (add-zero (at + 4 * k)))

pub floats-tab :
    (bs : List ℕ) (at n : ℕ)
    → tabulate n (λ k. float_at bs (at + 4 * k)) ≡ floats_of (drop at bs) n
floats-tab bs at n =
    let f : ℕ → Float = λ k. float_at bs (at + 4 * k) in
    let there = pieces-counted (λ rest. float_at rest 0) 4 (drop at bs) n in
    ext_get_or nan (tabulate n f) (floats_of (drop at bs) n) (length-tab f 0 n ∙ sym there)
    (λ k h. get_d_tabulate f n k nan (omega (arith, h, length-tab f 0 n))
    ∙ sym (float-at-place bs at k n (omega (arith, h, length-tab f 0 n))))

-- ---- there and back
abbrev pub Fits : Float → Type 0
Fits x = T (fits binary32 x)

float_back : (x : Float) (rest : List ℕ) → Fits x → float_at (float_bytes x ++ rest) 0 ≡ x
float_back x rest h =
    ap (of_bits binary32) (number-back 4 (to_bits binary32 x) rest (to_bits-lt binary32 x h))
    ∙ of_bits-to_bits binary32 x h

pub floats-back :
    (xs : List Float) (rest : List ℕ) → All Fits xs
    → floats_of (floats_bytes xs ++ rest) (length xs) ≡ xs
floats-back = pieces-back float_bytes 4 float-length (λ rest. float_at rest 0) Fits float_back

-- ---- back and there
abbrev pub Number : Float → Type 0
Number x = T (not (is_nan x))

pub bytes-of-floats :
    (n : ℕ) (bs : List ℕ) → 4 * n ≤ length bs → All Byte bs → All Number (floats_of bs n)
    → floats_bytes (floats_of bs n) ≡ take (4 * n) bs
unfolding pieces_of pieces
bytes-of-floats zero bs l h k = refl
bytes-of-floats (suc n) bs l h k =
    let e : 4 * suc n ≡ 4 + 4 * n = omega arith in
    let below : number_at bs 0 4 < 2 ^ 32 = number-below 4 bs (omega arith) h in
    rw (
      to_bits-of_bits binary32 (number_at bs 0 4) below k.0,
      bytes_back 4 bs (omega arith) h,
      e,
      take-add 4 (4 * n) bs,
    )
    (ap (λ (r : List ℕ). take 4 bs ++ r)
    (bytes-of-floats n (drop 4 bs) (rw (length-drop 4 bs) (omega arith)) (all_drop Byte 4 bs h)
    k.1))
