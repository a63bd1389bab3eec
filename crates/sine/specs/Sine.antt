-- Sine and cosine by the table R, in document 01's steps from an angle θ: u, U, q, p, the turned p,
-- v, sin and cos. Assumes nothing.
use Rattle.std.specs.Prelude.{cond, ◌&&◌, ℕ, ◌+◌, ◌-◌, ◌/◌, ◌%◌, ◌^◌, leb, ltb, eqb, Float}
use Rattle.std.specs.Float.{binary32}
use Rattle.std.specs.Float.Ieee.{mul, of_bits, round}
use Rattle.float32.specs.Value.{moved}
use Rattle.lists.specs.Interpolation.{interp}
use Rattle.sine.specs.Table.{R}

-- 0.15915494, turns per radian
abbrev pub turns_per_radian : Float
turns_per_radian = of_bits binary32 0x3e22_f983

-- u = θ·0.15915494
abbrev pub u : Float → Float
u θ = mul binary32 θ turns_per_radian

-- U = floor(u·2^24) mod 2^24. `moved (2 ^ 128) x` is floor((x + 2^128)·2^24): adding whole turns
-- changes nothing mod 2^24, and 2^128 of them make every finite u positive, so that the floor is
-- one of natural numbers. A u that is infinite or NaN gives 0.
unfoldable pub U : Float → ℕ
U θ = moved (2 ^ 128) (u θ) % 2 ^ 24

-- q = floor(U/2^22), the quarter of the turn
abbrev pub q : ℕ → ℕ
q U = U / 2 ^ 22

-- p = U mod 2^22, the position in the quarter
abbrev pub p : ℕ → ℕ
p U = U % 2 ^ 22

-- p, turned to 2^22-p for odd q
unfoldable pub turned : ℕ → ℕ
turned U = cond (eqb (q U % 2) 1) (2 ^ 22 - p U) (p U)

-- v: between table points R is interpolated, with floor, over steps of 2^14
abbrev pub v : ℕ → ℕ
v U = interp 14 R (turned U)

-- floor(v/64)/2^24, negative for q of 2 and 3, zero positive. The rounding changes nothing:
-- floor(v/64) is at most 2^24
unfoldable pub wave : ℕ → Float
wave U = round binary32 (leb 2 (q U) && ltb 0 (v U / 64)) (v U / 64) (2 ^ 24)

unfoldable pub sin_of : Float → Float
sin_of θ = wave (U θ)

-- cos adds 2^22 to U, mod 2^24
unfoldable pub cos_of : Float → Float
cos_of θ = wave ((U θ + 2 ^ 22) % 2 ^ 24)
