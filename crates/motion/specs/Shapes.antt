-- The shapes of the moving field, in the Rust's order: `motion_openness` of document 01 away from
-- its resting states. Each is a function of x, the octaves above the lowest frequency shown, of the
-- size of its cycle in octaves, and of its phase. Every operation is rounded, in the order the Rust
-- writes. Assumes nothing.
use Rattle.std.specs.Prelude.{cond, Float}
use Rattle.std.specs.Float.{binary32}
use Rattle.std.specs.Float.Ieee.{of_bits, add, sub, mul, div, neg, lt}
use Rattle.float32.specs.Constants.{tau}
use Rattle.float32.specs.Order.{clamp, minimum, magnitude}
use Rattle.float32.specs.Powers.{square, fifth}
use Rattle.float32.specs.Remainder.{zero, one, half, rem_euclid_one}
use Rattle.float32.specs.Smoothstep.{two, three, smoothstep}
use Rattle.power.specs.Decimal.{exp}
use Rattle.sine.specs.Sine.{sin_of, cos_of}

-- the octaves from 20 to 20,000 Hz: 9.965784
abbrev pub display_octaves : Float
display_octaves = of_bits binary32 0x411f_73da

-- where in its cycle the saw begins to fall: 0.9
abbrev pub reset_start : Float
reset_start = of_bits binary32 0x3f66_6666

-- 0.5 + 0.5 cos(τ (x / size - phase)), clamped to 0..1
unfoldable pub ripple : Float → Float → Float → Float
ripple x size phase = clamp zero one (add binary32 half (mul binary32 half (cos_of (mul binary32 tau (sub binary32 (div binary32 x size) phase)))))

-- its fifth power
unfoldable pub harmonic : Float → Float → Float → Float
harmonic x size phase = fifth (ripple x size phase)

-- Three layers, each a sine. Their sizes are 2.7, 1.13 and 0.53 times that of the field, and their
-- phases are -1, +2 and -3 times its phase.
abbrev pub broad_angle : Float → Float → Float → Float
broad_angle x size phase = mul binary32 tau (sub binary32 (div binary32 x (mul binary32 size (of_bits binary32 0x402c_cccd))) phase)

-- offset by 0.19 of a turn
abbrev pub middle_angle : Float → Float → Float → Float
middle_angle x size phase =
    mul binary32 tau (add binary32 (add binary32 (div binary32 x (mul binary32 size (of_bits binary32 0x3f90_a3d7))) (mul binary32 phase two)) (of_bits binary32 0x3e42_8f5c))

-- offset by 0.61 of a turn
abbrev pub detail_angle : Float → Float → Float → Float
detail_angle x size phase =
    mul binary32 tau (add binary32 (sub binary32 (div binary32 x (mul binary32 size (of_bits binary32 0x3f07_ae14))) (mul binary32 phase three)) (of_bits binary32 0x3f1c_28f6))

unfoldable pub broad : Float → Float → Float → Float
broad x size phase = sin_of (broad_angle x size phase)

unfoldable pub middle : Float → Float → Float → Float
middle x size phase = sin_of (middle_angle x size phase)

unfoldable pub detail : Float → Float → Float → Float
detail x size phase = sin_of (detail_angle x size phase)

-- 0.5 + 0.25 b + 0.17 m + 0.08 d, clamped to 0..1
abbrev pub layered : Float → Float → Float → Float
layered b m d =
    clamp zero one
    (add binary32
    (add binary32 (add binary32 half (mul binary32 (of_bits binary32 0x3e80_0000) b)) (mul binary32 (of_bits binary32 0x3e2e_147b) m))
    (mul binary32 (of_bits binary32 0x3da3_d70a) d))

unfoldable pub drift : Float → Float → Float → Float
drift x size phase = layered (broad x size phase) (middle x size phase) (detail x size phase)

-- the distance of x from the point that the phase gives, with the ends of the display joined
unfoldable pub wrapped : Float → Float → Float
wrapped x phase =
    let distance = magnitude (sub binary32 x (mul binary32 phase display_octaves)) in
    minimum distance (sub binary32 display_octaves distance)

-- -0.5 (wrapped / (0.42 size))²
abbrev pub window_exponent : Float → Float → Float → Float
window_exponent x size phase = mul binary32 (neg half) (square (div binary32 (wrapped x phase) (mul binary32 size (of_bits binary32 0x3ed7_0a3d))))

-- exp of that is Scan; Notch is 1 minus it
unfoldable pub window : Float → Float → Float → Float
window x size phase = exp (window_exponent x size phase)

-- a linear rise up to reset_start, then a smooth fall; 1 - reset_start is rounded, and is not the
-- f32 nearest to 0.1
unfoldable pub saw_at : Float → Float
saw_at cycle =
    cond (lt cycle reset_start) (div binary32 cycle reset_start)
    (sub binary32 one (smoothstep (div binary32 (sub binary32 cycle reset_start) (sub binary32 one reset_start))))

unfoldable pub saw : Float → Float → Float → Float
saw x size phase = saw_at (rem_euclid_one (sub binary32 (div binary32 x size) phase))
