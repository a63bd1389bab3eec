-- `step_from` meets its contract: proofs/Guess.antt says it of the guess. Assumes nothing.
use mathlib.Core.Bool.{Bool, true, false}
use Prim.Native.Nat.{◌≤◌, zero-le}
use native.Mathlib.Nat.{le_refl}
use native.Mathlib.Omega.{arith}
use mir.Val.{bool_byte}
use lib.Dec.{leb}
use Rattle.power.proofs.Guess.{Guess, guess-is, step_from}
use Rattle.power.proofs.log2.step_from.Goals.{Start}
use Rattle.power.proofs.log2.step_from.Goals as goal

guess : (c : Start) → Guess c.args.t c.args.h
guess c = let p = c.requires in rw p.2 (guess-is c.args.t p.0 p.1)

bool-byte : (b : Bool) → bool_byte b ≤ 1
bool-byte true = le_refl 1
bool-byte false = zero-le

pub overflow_add-result : goal.overflow_add-result
overflow_add-result c = record { fits = let l = (guess c).within in let b = bool-byte (leb c.args.next c.args.t) in omega arith }

pub returns : goal.returns
returns c = rw c.requires.3 (step_from c.args.t c.args.h c.requires.1 (guess c))
