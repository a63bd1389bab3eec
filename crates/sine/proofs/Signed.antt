-- A whole number up to 2 ^ 24 with a sign, as the code makes it from an i32, over 2 ^ 24: zero has
-- no sign. Assumes nothing.
use mathlib.Core.Path.{◌≡◌, refl, sym, ap, ◌∙◌}
use mathlib.Core.Bool.{Bool, true, false, cond, ◌&&◌}
use Prim.Native.Nat.{ℕ, zero, suc, ◌-◌, ◌≤◌, ◌<◌}
use native.Mathlib.Omega.{arith}
use borrow.Author.Tests.{lt-ltb}
use mir.Syntax.{w32}
use mir.Val.{to_z, SFits}
use lib.Dec.{T, ltb, lit<, lt→ltb}
use lib.IntN.{ℤ, pos, negsuc, neg_ℤ, ◌-ℤ◌}
use lib.Ieee.{Float, binary32, round, neg, div, of_int, of_bits, in_float, fits}
use Rattle.float_laws.specs.Units.{mag, real}
use Rattle.float_laws.specs.Round.{round-neg}
use Rattle.float_laws.specs.Signs.{neg-round}
use Rattle.float_laws.specs.Ops.{neg-div}
use Rattle.float_laws.specs.Exact.{real-whole}
use Rattle.float32.proofs.Sums.{fraction-is, in-float}

-- n, or -n
abbrev pub with_sign : Bool → ℕ → ℤ
with_sign s n = cond s (neg_ℤ (pos n)) (pos n)

pub read_back : (n : ℕ) → n ≤ 16777216 → to_z w32 n ≡ pos n
read_back n h = rw (lt-ltb n 2147483648 (omega arith))

pub from_zero : (n : ℕ) → pos 0 -ℤ pos n ≡ neg_ℤ (pos n)
from_zero zero = refl
from_zero (suc n) = rw (lt-ltb 0 (suc n) (omega arith)) (ap negsuc (let e : suc n - 1 ≡ n = omega arith in e))

pub sign_fits : (s : Bool) (n : ℕ) → n ≤ 16777216 → SFits w32 (with_sign s n)
sign_fits false n h = record { sfits = omega arith }
sign_fits true zero h = record { sfits = omega arith }
sign_fits true (suc n) h = record { sfits = omega arith }

pub sign-in-float : (s : Bool) (n : ℕ) → n ≤ 16777216 → T (in_float binary32 (with_sign s n))
unfolding in_float
sign-in-float false n h = in-float n h
sign-in-float true zero h = in-float 0 h
sign-in-float true (suc n) h = lt→ltb n 16777216 (omega arith)

-- 2 ^ 24
constant_real : T (real binary32 (of_bits binary32 1266679808))
unfolding of_bits fits
constant_real = tt

constant-size : 0 < mag binary32 (of_bits binary32 1266679808)
unfolding of_bits mag
constant-size = lit< tt

pub signed-fraction : (s : Bool) (n : ℕ) → n ≤ 16777216 → div binary32 (of_int binary32 (with_sign s n)) (of_bits binary32 1266679808) ≡ round binary32 (s && ltb 0 n) n 16777216
signed-fraction false n h = fraction-is n h
signed-fraction true zero h = fraction-is 0 h
signed-fraction true (suc n) h =
    ap (λ (x : Float). div binary32 x (of_bits binary32 1266679808)) (below n)
    ∙ neg-div binary32 (of_int binary32 (pos (suc n))) (of_bits binary32 1266679808) (real-whole binary32 (suc n) h) constant_real constant-size
    ∙ ap neg (fraction-is (suc n) h)
    ∙ neg-round binary32 (suc n) 16777216
    ∙ ap (λ (b : Bool). round binary32 b (suc n) 16777216) (sym (lt-ltb 0 (suc n) (omega arith)))
  where
    below : (n : ℕ) → of_int binary32 (negsuc n) ≡ neg (of_int binary32 (pos (suc n)))
    below n = unfold of_int in round-neg binary32 (suc n) 1
