-- `float32::bits::fraction` meets its contract: f is a whole number that f32 holds, so the quotient
-- is rounded once. Assumes nothing.
use Rattle.std.proofs.Common.{◌≡◌, ℕ, ◌≤◌, T, ℤ, pos, sym, ap, ◌∙◌, subst, arith, w32, to_z, lt-ltb}
use lib.Ieee.{binary32, of_int, in_float, of_bits, div}
use Rattle.float32.proofs.Sums.{in-float, fraction-is}
use Rattle.float32.proofs.bits.fraction.Goals as goal

-- the cast to a signed number loses nothing
signed : (n : ℕ) → n ≤ 16777216 → to_z w32 n ≡ pos n
signed n l = rw (lt-ltb n 2147483648 (omega arith))

pub int_to_float-result : goal.int_to_float-result
int_to_float-result c = subst (λ (z : ℤ). T (in_float binary32 z)) (sym (signed c.args.f c.requires)) (in-float c.args.f c.requires)

pub returns : goal.returns
returns c =
    ap (λ (z : ℤ). div binary32 (of_int binary32 z) (of_bits binary32 1266679808)) (signed c.args.f c.requires)
    ∙ fraction-is c.args.f c.requires
