-- `remove_voice` meets its contract: the place is found, then both arrays are closed. Assumes
-- nothing.
use mathlib.Core.Path.{◌≡◌, refl, sym, ◌∙◌}
use Prim.Native.Nat.{◌<◌}
use native.Mathlib.Omega.{arith}
use lib.ListN.{length, take}
use lib.Seq.{length-take-le}
use borrow.Author.Rules.{rules}
use Rattle.lists.specs.Closing.{copied-closed}
use Rattle.voice_records.specs.VoiceRecords.{no_record}
use Rattle.voice_bank.proofs.Answers.{places-most, some-inside, none-beyond, found-place}
use Rattle.voice_bank.proofs.Answers.{remove-missing, remove-done}
use Rattle.voice_bank.proofs.remove_voice.Goals as goal

pub returns-in_default : goal.returns-in_default
returns-in_default c =
    let bank = c.args.bank.now in
    let id = c.args.id in
    let n = c.held-count.ensures in
    let most = places-most bank.count n in
    let whole : length bank.ids ≡ 128 = search rules in
    let same = length-take-le c.held-count.result bank.ids (omega (arith, most, whole)) in
    let none = sym c.in_default.is ∙ c.place_in.ensures in
    let h = none-beyond id (take c.held-count.result bank.ids) none refl in
    let e = remove-missing bank id n refl (omega (arith, same, h)) in
    record { outcome_value = simp (c.into.ensures, e); bank_value = simp e }

pub returns : goal.returns
returns c =
    let bank = c.args.bank.now in
    let id = c.args.id in
    let count = c.held-count.result in
    let n = c.held-count.ensures in
    let most = places-most bank.count n in
    let whole : length bank.ids ≡ 128 = search rules in
    let same = length-take-le count bank.ids (omega (arith, most, whole)) in
    let place = c.in-Some.place in
    let p = found-place id (take count bank.ids) c.in-Some.ensures in
    let h = some-inside id (take count bank.ids) c.in-Some.ensures refl in
    let inside : place < count = omega (arith, same, p, h) in
    let ids = c.copy_within.ensures in
    let voices = c.copy_within-2.ensures in
    let e = remove-done bank id n p inside in record {
      outcome_value = sym e;
      bank_value = simp (
        copied-closed 0 bank.ids c.copy_within.new.self place count inside ids.len
            ids.by_index.0 ids.by_index.1 ids.by_index.2,
        copied-closed no_record bank.voices c.copy_within-2.new.self place count inside voices.len
            voices.by_index.0 voices.by_index.1 voices.by_index.2,
        ← n,
        ← p,
        e,
      );
    }
