-- `float32::remainder::rem_euclid_one` meets its contract, test by test: proofs/RemainderByOne.antt
-- has each arm. Assumes nothing.
use Rattle.std.proofs.Common.{◌≡◌, Bool, true, false, not, T, sym, refl, ap, ◌∙◌, subst}
use lib.Ieee.{Float, binary32, fits, lt, sub}
use Rattle.float32.specs.Order.{magnitude}
use Rattle.float32.specs.Remainder.{zero, whole_part, all_whole}
use Rattle.float32.proofs.Magnitude.{magnitude-clear}
use Rattle.float32.proofs.RemainderByOne.{no_fraction, nothing, below-zero, above_zero}
use Rattle.float32.proofs.remainder.rem_euclid_one.Goals.{After-abs-size, After-whole_part, Else-not-part, Else-not-size, Start}
use Rattle.float32.proofs.remainder.rem_euclid_one.Goals as goal

denied : (b : Bool) → not b ≡ true → b ≡ false
denied true h = sym h
denied false h = refl

kept : (b : Bool) → not b ≡ false → b ≡ true
kept true h = refl
kept false h = sym h

held : (c : Start) → T (fits binary32 c.args.v)
held c = subst T (sym c.well_formed.0.1) tt

module _ (c : After-abs-size) where
  abbrev v : Float
  v = c.args.v

  size_is : c.abs-size.result ≡ magnitude v
  size_is = c.abs-size.ensures

pub returns-then-not-size : goal.returns-then-not-size
returns-then-not-size c = no_fraction (v c.before) (held c.before.before) (rw (size_is c.before) at (denied (lt c.abs-size.result all_whole) c.if-not-size.true-raw))

small : (c : Else-not-size) → lt (magnitude (v c.before)) all_whole ≡ true
small c = rw (size_is c.before) at (kept (lt c.abs-size.result all_whole) c.if-not-size.false-raw)

pub whole_part-requires : goal.whole_part-requires
whole_part-requires c = rw (size_is c.before) (magnitude-clear (v c.before), subst T (sym (small c)) tt)

module _ (c : After-whole_part) where
  abbrev part : Float
  part = sub binary32 (magnitude (v c.before.before)) (whole_part (magnitude (v c.before.before)))

  part-is : sub binary32 c.abs-size.result c.whole_part.result ≡ part
  part-is =
      ap (λ (w : Float). sub binary32 c.abs-size.result w) c.whole_part.ensures
      ∙ ap (λ (a : Float). sub binary32 a (whole_part a)) (size_is c.before.before)

pub returns-then-not-part : goal.returns-then-not-part
returns-then-not-part c =
    let s = c.before.before.before in
    nothing (v s) (held s.before) (small c.before.before) (rw (part-is c.before) at (denied (lt zero (sub binary32 s.abs-size.result c.whole_part.result)) c.if-not-part.true-raw))

above : (c : Else-not-part) → lt zero (part c.before) ≡ true
above c = rw (part-is c.before) at (kept (lt zero (sub binary32 c.abs-size.result c.whole_part.result)) c.if-not-part.false-raw)

pub returns-then-v : goal.returns-then-v
returns-then-v c =
    let w = c.before.before in
    rw (part-is w) (below-zero (v w.before.before) (held w.before.before.before) (small w.before) (above c.before) c.if-v.true)

pub returns-else-v : goal.returns-else-v
returns-else-v c =
    let w = c.before.before in
    part-is w ∙ above_zero (v w.before.before) (held w.before.before.before) (small w.before) (above c.before) c.if-v.false
