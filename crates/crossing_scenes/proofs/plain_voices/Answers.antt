-- `plain_voices` meets its contract: each entry passed is the plain record of its voice. Assumes
-- nothing.
use mathlib.Core.Path.{◌≡◌, refl, sym, ap, ◌∙◌}
use Prim.Native.Nat.{ℕ, ◌-◌}
use native.Mathlib.Omega.{arith}
use lib.ListN.{length, get_or}
use borrow.Author.Rules.{rules}
use Rattle.lists.specs.Maps.{tabulate}
use Rattle.lists.specs.Turned.{turned_none, turned_more, turned-fill}
use Rattle.scene.specs.Accepted.{no_voice}
use Rattle.voice_records.specs.VoiceRecords.{no_record, plain_voice}
use Rattle.crossing_scenes.proofs.Crossed.{each-plain}
use Rattle.crossing_scenes.proofs.plain_voices.Goals as goal

pub loop-i-init : goal.loop-i-init
loop-i-init c = (refl, turned_none _ _ _)

pub offset_bounds-voices-i : goal.offset_bounds-voices-i
offset_bounds-voices-i c = omega arith

pub loop-i-preserved : goal.loop-i-preserved
loop-i-preserved c = (
  refl,
  turned_more no_record c.loop-i.invariant.1 (omega arith) c.from.ensures,
)

pub returns : goal.returns
returns c =
    let a = c.args in
    let l : length a.voices ≡ 128 = search rules in
    turned-fill c.loop-i.invariant.1 (omega arith)
    ∙ ap (λ (n : ℕ). tabulate n (λ k. plain_voice (get_or a.voices k no_voice)))
    (c.loop-i.invariant.0 ∙ sym l)
    ∙ each-plain a.voices
