-- `voices_at` meets its contract: the array fills from its start. Assumes nothing.
use mathlib.Core.Path.{◌≡◌, sym, ap, ◌∙◌}
use Prim.Native.Nat.{ℕ}
use native.Mathlib.Omega.{arith}
use lib.ListN.{drop}
use Rattle.scene.specs.Gathered.{gathered_to}
use Rattle.scene.proofs.Gathered.{gathered_none}
use Rattle.record_voices.specs.Voices.{voices_of}
use Rattle.record_voices.proofs.Steps.{gathered-voice}
use Rattle.record_voices.proofs.voices_at.Goals as goal

pub loop-i-init : goal.loop-i-init
loop-i-init c = c.silent_voices-voices.ensures ∙ sym (gathered_none _)

pub overflow_mul-i : goal.overflow_mul-i
overflow_mul-i c = omega arith

pub overflow_add-at : goal.overflow_add-at
overflow_add-at c = omega arith

pub voice_at-requires : goal.voice_at-requires
voice_at-requires c = omega arith

pub offset_bounds-voices-i : goal.offset_bounds-voices-i
offset_bounds-voices-i c = omega arith

pub loop-i-preserved : goal.loop-i-preserved
loop-i-preserved c =
    let a = c.args in
    gathered-voice a.«record».now a.at a.count c.loop-i.i _ _ (omega arith)
    (omega arith) c.loop-i.invariant c.voice_at.ensures

pub returns : goal.returns
returns c =
    let a = c.args in
    let z : c.loop-i.i ≡ a.count = omega arith in
    c.loop-i.invariant
    ∙ ap (λ (n : ℕ). gathered_to n (voices_of (drop a.at a.«record».now) a.count)) z
