-- A level is silence where it is below the limit and above its negative, which is what the one test
-- on the magnitude says, of a NaN too. So one test is enough for a level that is not below 0.
-- Assumes nothing.
use mathlib.Core.Path.{◌≡◌, refl, ◌∙◌}
use mathlib.Core.Bool.{Bool, true, false, ◌&&◌}
use Prim.Native.Nat.{ℕ, ◌+◌, ◌*◌, ◌<◌}
use native.Mathlib.Omega.{arith}
use lib.Count.{count_trailing_zeros}
use lib.Dec.{T, ltb, ltb→lt}
use lib.IntN.{ℤ, negsuc}
use lib.Ieee.{Float, nan, inf, fin, binary32, fits, up, down, lt, le, of_bits, of_fields, odd}
use lib.Ieee.Bits.{is_true}
use borrow.Author.Tests.{lt-ltb}
use Rattle.float_laws.specs.Order.{le_right, lt-of-lt-of-le-f}
use Rattle.float32.specs.Order.{magnitude}
use Rattle.float32.specs.Remainder.{zero}
use Rattle.envelopes.specs.Envelope.{SILENCE}

-- -0.000001
abbrev minus_silence : Float
minus_silence = of_bits binary32 0xb586_37bd

above : (a b : ℕ) → ltb a b ≡ (ltb a b && ltb 0 (b + a))
above a b = go (ltb a b) (ltb→lt a b)
  where
    go : (c : Bool) → (T c → a < b) → c ≡ (c && ltb 0 (b + a))
    go true h = let l = h tt in rw (lt-ltb 0 (b + a) (omega arith))
    go false h = refl

under : (a b : ℕ) → ltb a b ≡ (ltb 0 (a + b) && ltb a b)
under a b = go (ltb a b) (ltb→lt a b) (ltb 0 (a + b)) (λ l. lt-ltb 0 (a + b) l)
  where
    go : (c : Bool) → (T c → a < b) → (d : Bool) → (0 < a + b → d ≡ true) → c ≡ (d && c)
    go true h d k = let l = h tt in rw (k (omega arith))
    go false h true k = refl
    go false h false k = refl

two-sided : (n : ℕ) (d : ℤ) (x : Float) → lt (magnitude x) (fin false n d) ≡ (lt x (fin false n d) && lt (fin true n d) x)
unfolding lt magnitude
two-sided n d nan = refl
two-sided n d (inf true) = refl
two-sided n d (inf false) = refl
two-sided n d (fin false m e) = above (m * up e * down d) (n * up d * down e)
two-sided n d (fin true m e) = under (m * up e * down d) (n * up d * down e)

silence-is : (x : Float) → lt (magnitude x) SILENCE ≡ (lt x SILENCE && lt minus_silence x)
unfolding of_bits of_fields odd count_trailing_zeros
silence-is x = two-sided 8796093 (negsuc 42) x

and_first : (a : Bool) {b : Bool} → b ≡ true → (a && b) ≡ a
and_first true e = e
and_first false e = refl

pub silence-from-zero : (x : Float) → T (fits binary32 x) → T (le zero x) → lt (magnitude x) SILENCE ≡ lt x SILENCE
unfolding of_bits fits lt
silence-from-zero x F l =
    silence-is x
    ∙ and_first (lt x SILENCE) (is_true (lt minus_silence x) (lt-of-lt-of-le-f binary32 minus_silence zero x tt tt (le_right binary32 zero x F l) tt l))
