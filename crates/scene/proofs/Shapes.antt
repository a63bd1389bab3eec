-- A shape and its number, both ways. Assumes nothing.
use mathlib.Core.Path.{◌≡◌, refl}
use Prim.Native.Nat.{ℕ, ◌<◌}
use native.Mathlib.Omega.{arith}
use lib.Dec.{eqb, eqb→eq}
use Rattle.lists.specs.Tested.{below_at}
use Rattle.scene.specs.declared.MotionShape.{MotionShape}
use Rattle.scene.specs.declared.MotionShape.TheVariants.{Ripple, Harmonic, Drift, Scan}
use Rattle.scene.specs.declared.MotionShape.TheVariants.{Notch, Saw, Sprinkle, Cloud}
use Rattle.scene.specs.Made.{shape_of, shape_number}

pub shape-below : (shape : MotionShape) → shape_number shape < 8
shape-below Ripple = omega arith
shape-below Harmonic = omega arith
shape-below Drift = omega arith
shape-below Scan = omega arith
shape-below Notch = omega arith
shape-below Saw = omega arith
shape-below Sprinkle = omega arith
shape-below Cloud = omega arith

pub shape-of-number : (shape : MotionShape) → shape_of (shape_number shape) ≡ shape
shape-of-number Ripple = refl
shape-of-number Harmonic = refl
shape-of-number Drift = refl
shape-of-number Scan = refl
shape-of-number Notch = refl
shape-of-number Saw = refl
shape-of-number Sprinkle = refl
shape-of-number Cloud = refl

pub number-of-shape : (n : ℕ) → n < 8 → shape_number (shape_of n) ≡ n
number-of-shape n h =
    eqb→eq (shape_number (shape_of n)) n (below_at 8 (λ n. eqb (shape_number (shape_of n)) n) tt n h)
