-- `all_centered` meets its contract: the test of the voices from here on is the test of all.
-- Assumes nothing.
use mathlib.Core.Path.{◌≡◌}
use mathlib.Core.Bool.{Bool}
use Prim.Native.Nat.{ℕ, ◌≤◌}
use lib.ListN.{take, drop}
use Rattle.lists.specs.Tested.{every}
use Rattle.scene.specs.declared.MaskVoice.{MaskVoice}
use Rattle.mask_builder.specs.Centered.{centered}
use Rattle.mask_builder.proofs.centers.all_centered.Given as goal

abbrev pub at_center : ℕ → MaskVoice → Bool
at_center index voice = centered voice

abbrev pub invariant-loop-i : goal.invariant-loop-i
invariant-loop-i l = (l.i ≤ l.count) × (every at_center l.i (drop l.i (take l.count l.voices)) ≡ every at_center 0 (take l.count l.voices))
