-- `with_request` meets its contract: its two tests are the definition's. Assumes nothing.
use lib.ListN.{take}
use borrow.Author.Tests.{lt-leb}
use Rattle.mixer.proofs.Searches.{any-has}
use Rattle.mixer.proofs.with_request.Goals as goal

pub returns-then-contains : goal.returns-then-contains
returns-then-contains c =
    let line = take c.min-count.result c.args.mixer.now.strips in
    simp (
      ← c.min-count.ensures,
      ← any-has c.args.strip line,
      ← c.contains.ensures.value,
      c.if-contains.true,
    )

pub returns : goal.returns
returns c =
    let line = take c.min-count.result c.args.mixer.now.strips in
    simp (
      ← c.min-count.ensures,
      ← any-has c.args.strip line,
      ← c.contains.ensures.value,
      c.if-contains.false,
      lt-leb _ _ c.if-count-ge-STRIPS.false,
    )
