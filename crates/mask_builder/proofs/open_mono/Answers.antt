-- `open_mono` meets its contract, with the note layer on and off. Assumes nothing.
use Rattle.lists.specs.Maps.{replicate-tabulate}
use mathlib.Core.Path.{◌∙◌, ◌≡◌}
use Prim.Native.Nat.{◌/◌}
use native.Mathlib.Omega.{arith}
use Rattle.lobes.proofs.Lent.{if-lent}
use Rattle.mask_builder.proofs.Built.{grid-partials, grid-last, opened, shut}
use borrow.Author.Rules.{rules}
use Rattle.mask_builder.proofs.open_mono.Goals as goal

pub open_one-requires : goal.open_one-requires
open_one-requires c =
    let e = c.grid_of-grid.ensures in
    let config = c.args.config in
    let last : c.grid_of-grid.result.last_bin ≡ config.fft_size / 2 = rw e (grid-last config) in
    record {
      few = rw e (grid-partials config);
      on-grid = record { last = omega arith; inside = if-lent _ c.requires.3 (λ table e l. omega (arith, l)) };
      heard = search rules;
      scene = rw e c.requires.4;
    }

pub returns-then-config : goal.returns-then-config
returns-then-config c =
    opened _ _ _ _ _ c.grid_of-grid.result c.grid_of-grid.ensures c.if-config.true c.open_one.ensures

pub returns-else-config : goal.returns-else-config
returns-else-config c = shut _ _ _ _ _ c.if-config.false (c.fill.ensures.after (λ y e. e) ∙ replicate-tabulate _ _)
