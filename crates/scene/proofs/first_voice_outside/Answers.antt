-- `scene::first_voice_outside` meets its contract: the search from here on, among the first `count`
-- voices, finds what the whole search finds. Assumes nothing.
use mathlib.Core.Path.{◌≡◌, sym, ◌∙◌}
use native.Mathlib.Omega.{arith}
use lib.ListN.{length}
use borrow.Author.Rules.{rules}
use Rattle.lists.specs.Folds.{rest-next, rest-none, bad-step, bad-stop, bad-end}
use Rattle.scene.specs.Accepted.{no_voice}
use Rattle.scene.proofs.first_voice_outside.Invariants.{accepted}
use Rattle.scene.proofs.first_voice_outside.Goals as goal

pub loop-i-preserved : goal.loop-i-preserved
loop-i-preserved c =
    let l : length c.args.voices ≡ 128 = search rules in
    sym (bad-step accepted _ (rest-next c.args.voices c.args.count c.loop-i.i no_voice (omega arith) (omega arith)) (sym c.voice_accepted.ensures ∙ c.if-not-voice_accepted.false)) ∙ c.loop-i.invariant

pub returns-then-not-voice_accepted : goal.returns-then-not-voice_accepted
returns-then-not-voice_accepted c =
    let l : length c.args.voices ≡ 128 = search rules in
    (sym (bad-stop accepted _ (rest-next c.args.voices c.args.count c.loop-i.i no_voice (omega arith) (omega arith)) (sym c.voice_accepted.ensures ∙ c.if-not-voice_accepted.true)) ∙ c.loop-i.invariant, omega arith)

pub returns : goal.returns
returns c =
    let end : c.args.count ≡ c.loop-i.i = omega arith in
    end ∙ sym (bad-end accepted _ (rest-none c.args.voices c.args.count c.loop-i.i (omega arith))) ∙ c.loop-i.invariant
