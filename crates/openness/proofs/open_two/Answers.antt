-- `open_two` joins the voices onto 0 on both sides. Assumes nothing.
use Rattle.lists.specs.Maps.{replicate-tabulate}
use mathlib.Core.Path.{◌∙◌, ◌≡◌, refl}
use native.Mathlib.Omega.{arith}
use lib.ListN.{length}
use Rattle.lobes.specs.Distance.{IfLent}
use Rattle.openness.proofs.Opened.{opened}
use Rattle.openness.proofs.ReadyVoices.{zeros-open}
use Rattle.openness.proofs.open_two.Goals as goal

pub ends_where-requires : goal.ends_where-requires
unfolding IfLent
ends_where-requires c =
    let k = c.requires.scene in
    record { lows-128 = refl; highs-128 = refl; row-64 = refl; long = λ e. k.long; table-real = λ e. k.table-real }

pub raise_voices-requires : goal.raise_voices-requires
unfolding IfLent
raise_voices-requires c =
    let k = c.requires.scene in
    let lows : length c.ends_where.new.lows ≡ 128 = c.ends_where.auto.lows in
    let highs : length c.ends_where.new.highs ≡ 128 = c.ends_where.auto.highs in
    record {
      scratch = record { chunk-64 = c.ends_where.auto.row; indexes-64 = refl };
      few = c.requires.few;
      on-grid = c.requires.on-grid;
      heard = c.requires.heard;
      walk = λ e.
          record {
            sides =
                record {
                  ready =
                      record {
                        last = k.last;
                        inside = c.requires.on-grid.inside;
                        lows-long = omega (arith, lows, k.long);
                        highs-long = omega (arith, highs, k.long);
                        ends = c.ends_where.ensures e;
                        table-real = k.table-real;
                      };
                  sides = record { first-open = zeros-open _ (c.fill.ensures.after (λ y e. e) ∙ replicate-tabulate _ _); second-open = zeros-open _ (c.fill-2.ensures.after (λ y e. e) ∙ replicate-tabulate _ _) };
                };
            grid-real = k.grid-real;
            voices-real = k.voices-real;
          };
    }

pub returns : goal.returns
returns c =
    (opened _ _ _ _ _ (c.fill.ensures.after (λ y e. e) ∙ replicate-tabulate _ _) c.raise_voices.ensures.0, opened _ _ _ _ _ (c.fill-2.ensures.after (λ y e. e) ∙ replicate-tabulate _ _) c.raise_voices.ensures.1)
