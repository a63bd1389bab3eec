-- `place_in` meets its contract: the search from here on finds what the whole search finds. Assumes
-- nothing.
use mathlib.Core.Path.{◌≡◌, sym, ap, ◌∙◌}
use mathlib.Core.Bool.{not}
use mathlib.Core.List.{List, ◌∷◌}
use Prim.Native.Nat.{ℕ, ◌+◌, ◌<◌}
use native.Mathlib.Numerals.{add-one}
use lib.ListN.{length, get_or, drop}
use lib.Seq.{drop-cons}
use borrow.Author.Tests.{eq-eqb, ne_eqb}
use Rattle.std.proofs.Common.{drop_of_length-le}
use Rattle.lists.specs.Folds.{bad-step, bad-stop, bad-end}
use Rattle.voice_bank.proofs.Answers.{found-there, found-nowhere}
use Rattle.voice_bank.proofs.place_in.Goals as goal

next : (ids : List ℕ) (i : ℕ) → i < length ids → drop i ids ≡ get_or ids i 0 ∷ drop (i + 1) ids
next ids i h = rw (add-one i) (drop-cons ids i 0 h)

pub returns-then-ids-place : goal.returns-then-ids-place
returns-then-ids-place c =
    let ids = c.args.ids.now in
    let place = c.loop-place.place in
    let inside = c.loop-place-test.true in
    found-there c.args.id ids
    (sym c.loop-place.invariant
    ∙ bad-stop _ place (next ids place inside) (ap not (eq-eqb _ _ c.if-ids-place.true)))
    inside

pub loop-place-preserved : goal.loop-place-preserved
loop-place-preserved c =
    let ids = c.args.ids.now in
    let place = c.loop-place.place in
    let after = next ids place c.loop-place-test.true in
    sym (bad-step _ place after (ap not (ne_eqb _ _ c.if-ids-place.false)))
    ∙ c.loop-place.invariant

pub returns : goal.returns
returns c =
    let ids = c.args.ids.now in
    let place = c.loop-place.place in
    let beyond = c.loop-place-test.false in
    found-nowhere c.args.id ids
    (sym c.loop-place.invariant ∙ bad-end _ place (drop_of_length-le ids {i = place} beyond))
    beyond
