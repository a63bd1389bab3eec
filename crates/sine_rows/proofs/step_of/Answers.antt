-- `step_of` splits the way at its 14 low bits: the masks are remainders. Assumes nothing.
use mathlib.Core.Path.{◌≡◌, ap, ◌∙◌}
use Prim.Native.Nat.{ℕ, ◌+◌, ◌/◌}
use native.Mathlib.Omega.{arith}
use lib.Bits.{bit_and, and_mask, mask_lt}
use Rattle.sine.specs.Sine.{q}
use Rattle.sine.specs.Rows.{way}
use Rattle.sine_rows.proofs.step_of.Goals.{After-way_into-way}
use Rattle.sine_rows.proofs.step_of.Goals as goal

pub way_into-way-requires : goal.way_into-way-requires
way_into-way-requires c = mask_lt c.args.place 22

abbrev place : After-way_into-way → ℕ
place c = c.args.place

pub overflow_add-result : goal.overflow_add-result
overflow_add-result c =
    let a = mask_lt c.way_into-way.result 14 in
    let b = mask_lt (q (place c)) 1 in
    record { fits = omega arith }

way-is : (c : After-way_into-way) → c.way_into-way.result ≡ way (place c)
way-is c = c.way_into-way.ensures ∙ rw (and_mask (place c) 22, and_mask (q (place c)) 1)

pub returns : goal.returns
returns c =
    let e = way-is c in (
      ap (λ (z : ℕ). z / 16384) e,
      ap (λ (z : ℕ). bit_and z 16383 + bit_and (q (place c)) 1) e ∙ rw (and_mask (way (place c)) 14, and_mask (q (place c)) 1),
    )
