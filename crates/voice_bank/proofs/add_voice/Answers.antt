-- `add_voice` meets its contract: its tests in the order of the reply, then the two stores. Assumes
-- nothing.
use mathlib.Core.Path.{◌≡◌, refl, sym, ◌∙◌}
use native.Mathlib.Omega.{arith}
use lib.ListN.{length, take}
use lib.Seq.{length-take-le}
use borrow.Author.Rules.{rules}
use Rattle.voice_bank.proofs.Answers.{some-inside, none-beyond}
use Rattle.voice_bank.proofs.Answers.{add-full, add-outside, add-again, add_done}
use Rattle.voice_bank.proofs.add_voice.Goals as goal

pub returns-then-count-ge-MOST_VOICES : goal.returns-then-count-ge-MOST_VOICES
returns-then-count-ge-MOST_VOICES c =
    let a = c.args in
    let e = add-full a.bank.now a.id a.voice c.if-count-ge-MOST_VOICES.true in
    record { outcome_value = simp (c.into.ensures, e); bank_value = simp e }

pub returns-then-not-voice_accepted : goal.returns-then-not-voice_accepted
returns-then-not-voice_accepted c =
    let a = c.args in
    let e =
    add-outside a.bank.now a.id a.voice c.if-count-ge-MOST_VOICES.false
    (sym c.voice_accepted.ensures ∙ c.if-not-voice_accepted.true) in
    record { outcome_value = simp (c.into-then-not-voice_accepted.ensures, e); bank_value = simp e }

pub returns-then-is_some : goal.returns-then-is_some
returns-then-is_some c =
    let a = c.args in
    let bank = a.bank.now in
    let room = c.if-count-ge-MOST_VOICES.false in
    let whole : length bank.ids ≡ 128 = search rules in
    let same = length-take-le bank.count bank.ids (omega (arith, room, whole)) in
    let h =
    some-inside a.id (take bank.count bank.ids) c.place_in.ensures
    (sym c.is_some.ensures ∙ c.if-is_some.true) in
    let e =
    add-again bank a.id a.voice room (sym c.voice_accepted.ensures ∙ c.if-not-voice_accepted.false)
    refl
    (omega (arith, same, h)) in
    record { outcome_value = simp (c.into-then-is_some.ensures, e); bank_value = simp e }

pub returns : goal.returns
returns c =
    let a = c.args in
    let bank = a.bank.now in
    let room = c.if-count-ge-MOST_VOICES.false in
    let whole : length bank.ids ≡ 128 = search rules in
    let same = length-take-le bank.count bank.ids (omega (arith, room, whole)) in
    let h =
    none-beyond a.id (take bank.count bank.ids) c.place_in.ensures
    (sym c.is_some.ensures ∙ c.if-is_some.false) in
    let e =
    add_done bank a.id a.voice room (sym c.voice_accepted.ensures ∙ c.if-not-voice_accepted.false)
    refl
    (omega (arith, same, h)) in
    record { outcome_value = sym e; bank_value = simp (c.from.ensures, e) }
