-- `envelopes::next_level` meets its contract, by those of the functions it calls: a step of a level
-- in 0..1 ends in 0..1, so it can be settled. Assumes nothing.
use mathlib.Core.Path.{sym, ap, subst, ◌∙◌}
use Prim.Native.Nat.{◌-◌}
use lib.Dec.{T}
use lib.Ieee.{Float, binary32, of_bits, add, sub, mul, le}
use Rattle.float32.specs.Remainder.{zero}
use Rattle.float32.proofs.InUnit.{InUnit}
use Rattle.envelopes.specs.Envelope.{settled}
use Rattle.envelopes.specs.Words.{is_set}
use Rattle.envelopes.proofs.Levels.{accepted-unit, moved-unit}
use Rattle.envelopes.proofs.next_level.Goals.{Start}
use Rattle.envelopes.proofs.next_level.Goals as goal

alpha-unit : (c : Start) → InUnit c.args.alpha
alpha-unit c = accepted-unit c.args.alpha (subst T (sym c.well_formed.1.1.0.1) tt) c.requires.1

level-unit : (c : Start) → InUnit c.args.level
level-unit c = accepted-unit c.args.level (subst T (sym c.well_formed.1.1.1.0.1) tt) c.requires.2

pub settle-requires : goal.settle-requires
unfolding of_bits
settle-requires c =
    let a = c.args in
    let stepped : Float → Float = λ target. add binary32 a.level (mul binary32 (sub binary32 target a.level) a.alpha) in
    subst (λ (target : Float). T (le zero (stepped target))) (sym c.target_of.ensures)
    (moved-unit a.alpha a.level (alpha-unit c.before) (level-unit c.before) (is_set a.half (31 - a.bit))).low

pub returns : goal.returns
returns c =
    let a = c.args in
    c.settle.ensures ∙ ap (λ target. settled (add binary32 a.level (mul binary32 (sub binary32 target a.level) a.alpha))) c.target_of.ensures
