-- `voices_of` meets its contract: each voice below the note is written. Assumes nothing.
use lib.ListN.{get_or}
use lib.Ieee.{nan}
use Rattle.lists.specs.Turned.{Turned}
use Rattle.scene.specs.Levels.{level_voice}
use Rattle.scene.proofs.levels.voices_of.Given as goal

abbrev pub invariant-loop-note : goal.invariant-loop-note
invariant-loop-note l = Turned (λ k x. level_voice k (get_or l.levels k nan)) 0 l.initial.voices l.voices l.note
