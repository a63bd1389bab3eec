-- The angle of a pan in -1..1, (pan + 1)·π/4 rounded at each operation, lies in the first quarter
-- of the turn, its ends at the quarter's ends: each operation keeps the order. Assumes nothing.
use mathlib.Core.Bool.{Bool, false}
use Prim.Native.Nat.{ℕ, ◌+◌, ◌*◌, ◌%◌, ◌^◌, ◌≤◌}
use native.Mathlib.Omega.{arith}
use lib.Dec.{T}
use lib.IntN.{ℤ, pos, negsuc}
use lib.Ieee.{Float, nan, inf, fin, binary32, of_bits, neg, add, mul, le, lt, eq, round, sum, size, units, odd, span, climb, fits}
use Rattle.float32.specs.Constants.{frac_pi_4}
use Rattle.float32.specs.Value.{moved}
use Rattle.float32.proofs.Floor.{moved-mono}
use Rattle.float_laws.specs.Units.{number, real, real-number}
use Rattle.float_laws.specs.Order.{le-refl-f}
use Rattle.float_laws.specs.Round.{plus_zero}
use Rattle.float_laws.specs.Mono.{add-mono, add-number, mul-mono-l, mul-number}
use Rattle.float_laws.specs.Bounds.{one, real-between}
use Rattle.sine.specs.Sine.{U, u, turns_per_radian}

abbrev pub pan_angle : Float → Float
pan_angle pan = mul binary32 (add binary32 pan one) frac_pi_4

-- ---- between two finite numbers, through an operation that keeps the order
record Between (lo x hi : Float) : Type 0 where
  real-lo : T (real binary32 lo)
  real-x : T (real binary32 x)
  real-hi : T (real binary32 hi)
  over : T (le lo x)
  under : T (le x hi)

module _ (g : Float → Float) (is_number : (x : Float) → T (real binary32 x) → T (number binary32 (g x)))
    (keeps : (x y : Float) → T (real binary32 x) → T (real binary32 y) → T (le x y) → T (le (g x) (g y))) where
  through : (lo x hi : Float) → T (real binary32 (g lo)) → T (real binary32 (g hi)) → Between lo x hi → Between (g lo) (g x) (g hi)
  through lo x hi r s b =
      let l = keeps lo x b.real-lo b.real-x b.over in
      let h = keeps x hi b.real-x b.real-hi b.under in
      record { real-lo = r; real-x = real-between binary32 (g lo) (g x) (g hi) (is_number x b.real-x) r s l h; real-hi = s; over = l; under = h }

abbrev plus : Float → Float → Float
plus z x = add binary32 x z

abbrev times : Float → Float → Float
times z x = mul binary32 x z

through-plus : (z : Float) → T (real binary32 z) → (lo x hi : Float) → T (real binary32 (plus z lo)) → T (real binary32 (plus z hi))
    → Between lo x hi → Between (plus z lo) (plus z x) (plus z hi)
through-plus z r = through (plus z) (λ x p. add-number binary32 x z p r) (λ x y p q h. add-mono binary32 x y z z p q r r h (le-refl-f binary32 z (real-number binary32 z r)))

through-times : (z : Float) → T (real binary32 z) → T (le plus_zero z) → (lo x hi : Float) → T (real binary32 (times z lo)) → T (real binary32 (times z hi))
    → Between lo x hi → Between (times z lo) (times z x) (times z hi)
through-times z r up = through (times z) (λ x p. mul-number binary32 x z p r) (λ x y p q h. mul-mono-l binary32 x y z p q r up h)

-- hard left is no turn, and hard right a quarter of one
pan-turns : (pan : Float) → Between (neg one) pan one → Between (fin false 0 (pos 0)) (u (pan_angle pan)) (fin false 1 (negsuc 1))
unfolding of_bits mul add sum neg round size units odd span climb fits le lt eq
pan-turns pan b =
    through-times turns_per_radian tt tt (pan_angle (neg one)) (pan_angle pan) (pan_angle one) tt tt
    (through-times frac_pi_4 tt tt (plus one (neg one)) (plus one pan) (plus one one) tt tt (through-plus one tt (neg one) pan one tt tt b))

-- ---- so its place is in the first quarter
moved-between : (c : ℕ) (x : Float) (s : Bool) (m : ℕ) (e : ℤ) (t : Bool) (n : ℕ) (d : ℤ) → Between (fin s m e) x (fin t n d)
    → (moved c (fin s m e) ≤ moved c x) × (moved c x ≤ moved c (fin t n d))
moved-between c nan s m e t n d b = absurd b.real-x
moved-between c (inf r) s m e t n d b = absurd b.real-x
moved-between c (fin r i j) s m e t n d b = (moved-mono c s m e r i j b.over, moved-mono c r i j t n d b.under)

in-quarter : (turns n : ℕ) → turns * 16777216 ≤ n → n ≤ turns * 16777216 + 4194304 → n % 16777216 ≤ 4194304
in-quarter turns n h k = omega arith

pub pan-place : (pan : Float) → T (real binary32 pan) → T (le (neg one) pan) → T (le pan one) → U (pan_angle pan) ≤ 2 ^ 22
unfolding U moved neg fits
pan-place pan p h k =
    let t = pan-turns pan (record { real-lo = tt; real-x = p; real-hi = tt; over = h; under = k }) in
    let b = moved-between (2 ^ 128) (u (pan_angle pan)) false 0 (pos 0) false 1 (negsuc 1) t in
    in-quarter (2 ^ 128) (moved (2 ^ 128) (u (pan_angle pan))) b.0 b.1
