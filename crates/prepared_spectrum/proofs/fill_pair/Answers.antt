-- `fill_pair` leaves the window and then its dual: the copy fills the front, and the dual the rest.
-- Assumes nothing.
use mathlib.Core.Path.{refl, sym}
use native.Mathlib.Omega.{arith}
use lib.ListN.{length, drop}
use lib.Seq.{length-take-le}
use Rattle.windows.specs.Windows.{dual_of}
use Rattle.prepared_spectrum.proofs.Filled.{fill-last}
use Rattle.prepared_spectrum.proofs.fill_pair.Goals as goal

pub slice_bounds-copy-end-2 : goal.slice_bounds-copy-end-2
slice_bounds-copy-end-2 c = sym (length-take-le _ _ (omega arith))

pub copy-requires : goal.copy-requires
copy-requires c = sym (length-take-le _ _ (omega arith))

pub returns : goal.returns
returns c =
    let w = c.args.window.now in
    let n = length w in
    let rest = drop n c.args.block.now in
    rw (c.copy.ensures, c.dual_window.ensures) (fill-last n w rest (dual_of w c.args.overlap) refl)
