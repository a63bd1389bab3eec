-- `voices_of` meets its contract: each voice below the note is written. Assumes nothing.
use mathlib.Core.Path.{◌≡◌, ap, ◌∙◌}
use Prim.Native.Nat.{ℕ}
use native.Mathlib.Omega.{arith}
use lib.ListN.{length, get_or, length-replicate}
use lib.Ieee.{nan}
use Rattle.lists.specs.Maps.{tabulate}
use Rattle.lists.specs.Turned.{turned_none, turned_more, turned-fill}
use Rattle.scene.specs.Accepted.{no_voice}
use Rattle.scene.specs.Made.{silent_voice}
use Rattle.scene.specs.Levels.{level_voice}
use Rattle.scene.proofs.levels.voices_of.Goals as goal

pub loop-note-init : goal.loop-note-init
loop-note-init c = turned_none _ _ _

pub overflow_cast-note : goal.overflow_cast-note
overflow_cast-note c = omega arith

pub offset_bounds-levels-note : goal.offset_bounds-levels-note
offset_bounds-levels-note c = omega arith

pub bounds-levels-note : goal.bounds-levels-note
bounds-levels-note c = omega arith

pub bounds-voices-note : goal.bounds-voices-note
bounds-voices-note c = omega arith

pub loop-note-preserved : goal.loop-note-preserved
loop-note-preserved c =
    let l : length c.silent_voices-voices.result ≡ 128 = ap length c.silent_voices-voices.ensures ∙ length-replicate 128 silent_voice in
    turned_more no_voice c.loop-note.invariant (omega arith) c.level_voice.ensures

pub returns : goal.returns
returns c =
    let levels = c.args.levels.now in
    let l : length c.silent_voices-voices.result ≡ 128 = ap length c.silent_voices-voices.ensures ∙ length-replicate 128 silent_voice in
    turned-fill c.loop-note.invariant (omega arith) ∙ ap (λ (n : ℕ). tabulate n (λ note. level_voice note (get_or levels note nan))) l
