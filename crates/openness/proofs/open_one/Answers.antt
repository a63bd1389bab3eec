-- `open_one` joins the voices onto 0. Assumes nothing.
use Rattle.lists.specs.Maps.{replicate-tabulate}
use mathlib.Core.Path.{◌∙◌, ◌≡◌, refl}
use native.Mathlib.Omega.{arith}
use lib.ListN.{length}
use Rattle.lobes.proofs.Lent.{lent-at, if-lent}
use Rattle.openness.proofs.Opened.{opened}
use Rattle.openness.proofs.ReadyVoices.{zeros-open, one-zero-open}
use Rattle.openness.proofs.open_one.Goals as goal

pub ends_where-requires : goal.ends_where-requires
ends_where-requires c =
    record {
      lows-128 = refl;
      highs-128 = refl;
      row-64 = refl;
      long = if-lent _ c.requires.scene (λ table e k compact. k.long);
      table-real = if-lent _ c.requires.scene (λ table e k compact. k.table-real);
    }

pub raise_voices-requires : goal.raise_voices-requires
raise_voices-requires c =
    let lows : length c.ends_where.new.lows ≡ 128 = c.ends_where.auto.lows in
    let highs : length c.ends_where.new.highs ≡ 128 = c.ends_where.auto.highs in
    record {
      scratch = record { chunk-64 = c.ends_where.auto.row; indexes-64 = refl };
      few = c.requires.few;
      on-grid = c.requires.on-grid;
      heard = c.requires.heard;
      walk =
          if-lent _ c.requires.scene
          (λ table e k compact.
          record {
            sides =
                record {
                  ready =
                      record {
                        last = k.last;
                        inside = lent-at _ e c.requires.on-grid.inside;
                        lows-long = omega (arith, lows, k.long);
                        highs-long = omega (arith, highs, k.long);
                        ends = lent-at _ e c.ends_where.ensures compact;
                        table-real = k.table-real;
                      };
                  sides = record { first-open = zeros-open _ (c.fill.ensures.after (λ y e. e) ∙ replicate-tabulate _ _); second-open = one-zero-open };
                };
            grid-real = k.grid-real;
            voices-real = k.voices-real;
          });
    }

pub returns : goal.returns
returns c =
    opened _ _ _ _ _ (c.fill.ensures.after (λ y e. e) ∙ replicate-tabulate _ _) c.raise_voices.ensures.0
