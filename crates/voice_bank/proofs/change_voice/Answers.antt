-- `change_voice` meets its contract: the voice is tested, the place found, then one store. Assumes
-- nothing.
use mathlib.Core.Path.{◌≡◌, refl, sym, ◌∙◌}
use native.Mathlib.Omega.{arith}
use lib.ListN.{length, take}
use lib.Seq.{length-take-le}
use borrow.Author.Rules.{rules}
use Rattle.voice_bank.proofs.Answers.{places-most, some-inside, none-beyond, found-place}
use Rattle.voice_bank.proofs.Answers.{change-outside, change-missing, change-done}
use Rattle.voice_bank.proofs.change_voice.Goals as goal

pub returns-then-not-voice_accepted : goal.returns-then-not-voice_accepted
returns-then-not-voice_accepted c =
    let a = c.args in
    let e =
    change-outside a.bank.now a.id a.voice
    (sym c.voice_accepted.ensures ∙ c.if-not-voice_accepted.true) in
    record { outcome_value = simp (c.into.ensures, e); bank_value = simp e }

pub returns-in_default : goal.returns-in_default
returns-in_default c =
    let a = c.args in
    let bank = a.bank.now in
    let n = c.held-count.ensures in
    let most = places-most bank.count n in
    let whole : length bank.ids ≡ 128 = search rules in
    let same = length-take-le c.held-count.result bank.ids (omega (arith, most, whole)) in
    let none = sym c.in_default.is ∙ c.place_in.ensures in
    let h = none-beyond a.id (take c.held-count.result bank.ids) none refl in
    let e =
    change-missing bank a.id n refl a.voice
    (sym c.voice_accepted.ensures ∙ c.if-not-voice_accepted.false)
    (omega (arith, same, h)) in
    record { outcome_value = simp (c.into-in_default.ensures, e); bank_value = simp e }

pub returns : goal.returns
returns c =
    let a = c.args in
    let bank = a.bank.now in
    let n = c.held-count.ensures in
    let most = places-most bank.count n in
    let whole : length bank.ids ≡ 128 = search rules in
    let same = length-take-le c.held-count.result bank.ids (omega (arith, most, whole)) in
    let found = c.in-Some.ensures in
    let p = found-place a.id (take c.held-count.result bank.ids) found in
    let h = some-inside a.id (take c.held-count.result bank.ids) found refl in
    let e =
    change-done bank a.id n p a.voice
    (sym c.voice_accepted.ensures ∙ c.if-not-voice_accepted.false)
    (omega (arith, same, p, h)) in
    record { outcome_value = sym e; bank_value = simp (c.from.ensures, ← n, ← p, e) }
