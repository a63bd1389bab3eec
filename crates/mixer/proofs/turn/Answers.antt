-- `turn` meets its contract: it names the first of the line, where there is one, and the others
-- move up. Assumes nothing.
use mathlib.Core.Path.{◌≡◌, sym}
use Prim.Native.Nat.{◌<◌}
use native.Mathlib.Omega.{arith}
use lib.ListN.{length}
use borrow.Author.Rules.{rules}
use Rattle.mixer.specs.Mixers.{held_in}
use Rattle.mixer.proofs.Answers.{turned-first}
use Rattle.mixer.proofs.turn.Goals as goal

pub returns-clause-mixer_value : goal.returns-clause-mixer_value
returns-clause-mixer_value c =
    let mixer = c.args.mixer.now in
    let count = c.min-count.ensures in
    let whole : length mixer.strips ≡ 16 = search rules in
    let some : 0 < held_in mixer = omega (arith, count, c.if-count-eq0.false) in
    simp (c.moved_up-mixer.ensures, c.saturating_add-mixer.ensures, count)
    (sym (turned-first mixer whole some))
