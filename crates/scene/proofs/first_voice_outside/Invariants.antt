-- `scene::first_voice_outside` meets its contract: the search from here on, among the first `count`
-- voices, finds what the whole search finds. Assumes nothing.
use mathlib.Core.Path.{◌≡◌}
use mathlib.Core.Bool.{Bool}
use Prim.Native.Nat.{ℕ}
use lib.ListN.{take, drop}
use Rattle.lists.specs.Folds.{first_bad_from, first_bad}
use Rattle.scene.specs.declared.MaskVoice.{MaskVoice}
use Rattle.scene.specs.Accepted.{voice_accepted}
use Rattle.scene.proofs.first_voice_outside.Given as goal

abbrev pub accepted : ℕ → MaskVoice → Bool
accepted index voice = voice_accepted voice

abbrev pub invariant-loop-i : goal.invariant-loop-i
invariant-loop-i l = first_bad_from accepted l.i (drop l.i (take l.count l.voices)) ≡ first_bad accepted (take l.count l.voices)
