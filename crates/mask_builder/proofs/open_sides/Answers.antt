-- `open_sides` meets its contract, with the note layer on and off. Assumes nothing.
use Rattle.lists.specs.Maps.{replicate-tabulate}
use mathlib.Core.Path.{◌∙◌, ◌≡◌}
use Prim.Native.Nat.{◌/◌}
use native.Mathlib.Omega.{arith}
use Rattle.lobes.specs.Distance.{IfLent}
use Rattle.mask_builder.proofs.Built.{grid-partials, grid-last, opened, shut}
use borrow.Author.Rules.{rules}
use Rattle.mask_builder.proofs.open_sides.Goals as goal

pub open_two-requires : goal.open_two-requires
unfolding IfLent
open_two-requires c =
    let e = c.grid_of-grid.ensures in
    let config = c.args.config in
    let last : c.grid_of-grid.result.last_bin ≡ config.fft_size / 2 = rw e (grid-last config) in
    record {
      few = rw e (grid-partials config);
      on-grid = record { last = omega arith; inside = omega arith };
      heard = search rules;
      scene = rw e c.requires.5;
    }

pub returns-then-config : goal.returns-then-config
returns-then-config c =
    let on = c.if-config.true in
    record { left_after = opened _ _ _ _ _ c.grid_of-grid.result c.grid_of-grid.ensures on c.open_two.ensures.0; right_after = opened _ _ _ _ _ c.grid_of-grid.result c.grid_of-grid.ensures on c.open_two.ensures.1 }

pub returns-else-config : goal.returns-else-config
returns-else-config c =
    let off = c.if-config.false in
    record { left_after = shut _ _ _ _ _ off (c.fill.ensures.after (λ y e. e) ∙ replicate-tabulate _ _); right_after = shut _ _ _ _ _ off (c.fill-else-config.ensures.after (λ y e. e) ∙ replicate-tabulate _ _) }
