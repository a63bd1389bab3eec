-- `gains` is its two stages, one after the other; of a level row the first entry's gain is every
-- entry's. Assumes nothing.
use mathlib.Core.Path.{◌≡◌, ap, ◌∙◌}
use mathlib.Core.List.{List, ◌++◌}
use lib.ListN.{replicate}
use Prim.Native.Nat.{ℕ, ◌≤◌}
use native.Mathlib.Omega.{arith}
use lib.ListN.{length, drop}
use lib.Seq.{length-take-le}
use lib.Ieee.{Float}
use Rattle.lists.specs.Maps.{map_range, replicate-front}
use Rattle.lists.specs.Stages.{stages}
use Rattle.decibels.proofs.Level.{level-gains}
use Rattle.decibels.proofs.rows.gains.Goals as goal

pub bounds-row-0 : goal.bounds-row-0
bounds-row-0 c = let n = (c.is_level.ensures c.if-is_level.true).0 in omega arith

pub returns-then-is_level : goal.returns-then-is_level
returns-then-is_level c =
    let a = c.args in
    let room : a.count ≤ length a.row.now = c.requires in
    let filled : c.fill.new.self ≡ replicate a.count c.gain-level.result =
    c.fill.ensures.after (λ y e. e) ∙ ap (λ (n : ℕ). replicate n c.gain-level.result) (length-take-le _ _ room) in
    let level : c.fill.new.self ++ drop a.count a.row.now ≡ map_range (λ k db. c.gain-level.result) 0 a.count a.row.now =
    ap (λ (l : List Float). l ++ drop a.count a.row.now) filled ∙ replicate-front _ a.count a.row.now room in
    let gains = rw c.gain-level.ensures at level in
    gains ∙ level-gains a.row.now a.count (c.is_level.ensures c.if-is_level.true).1

pub returns : goal.returns
returns c =
    let e = rw c.decades.ensures at c.pow10_row.ensures in
    e ∙ stages _ _ 0 _ _
