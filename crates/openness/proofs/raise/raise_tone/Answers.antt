-- `raise_tone` raises the lobes of the partials together or one after the other; either way that is
-- joining the tone. Assumes nothing.
use mathlib.Core.Path.{◌≡◌, ap, ◌∙◌, subst}
use mathlib.Core.List.{List}
use native.Mathlib.Omega.{arith}
use lib.ListN.{take}
use lib.Ieee.{Float}
use Rattle.lists.specs.Maps.{map_at}
use Rattle.lobes.specs.Distance.{Logs, logs_of}
use Rattle.lobes.proofs.Lent.{if-lent}
use Rattle.lobe_joins.specs.Joined.{lobes_joined}
use Rattle.tone_lobes.specs.ToneLobes.{lobes_of}
use Rattle.tone_lobes.proofs.Listed.{known-lobes}
use Rattle.openness.proofs.ToneLobes.{tone-raised}
use Rattle.openness.proofs.raise.raise_tone.Goals as goal

pub raised_together-requires : goal.raised_together-requires
raised_together-requires c =
    let of = c.lobes_of-lobes.ensures.0 in
    record {
      scratch = c.requires.scratch;
      few = omega (arith, c.requires.few, c.partials_of-count.ensures.1);
      walk =
          if-lent _ c.requires.walk
          (λ table e walk compact.
          let k = walk compact in
          record {
            sides = k.sides;
            sound = k.tone-ready.sound c.lobes_of-lobes.result c.partials_of-count.result c.partials_of-count.ensures.0
                (subst (λ (logs : Logs). take c.partials_of-count.result c.lobes_of-lobes.result ≡ lobes_of c.args.way.grid logs c.args.tone) e of);
            gains = k.tone-ready.gains;
          });
    }

pub returns-then-raised_together : goal.returns-then-raised_together
returns-then-raised_together c =
    let logs = logs_of c.args.table in
    let first = rw c.if-raised_together.true at c.raised_together.ensures.0 in
    let second = rw c.if-raised_together.true at c.raised_together.ensures.1 in (
      tone-raised c.args.way.grid logs c.args.tone _ c.partials_of-count.result c.lobes_of-lobes.result c.lobes_of-lobes.ensures.0 c.args.first.now first,
      tone-raised c.args.way.grid logs c.args.tone _ c.partials_of-count.result c.lobes_of-lobes.result c.lobes_of-lobes.ensures.0 c.args.second.now second,
    )

pub raise_lobes-requires : goal.raise_lobes-requires
raise_lobes-requires c = (
  record {
    chunk-64 = omega (arith, c.raised_together.auto.chunk, c.requires.scratch.chunk-64);
    indexes-64 = omega (arith, c.raised_together.auto.indexes, c.requires.scratch.indexes-64);
  },
  record {
    few = omega (arith, c.requires.few, c.partials_of-count.ensures.1);
    on-grid = c.requires.on-grid;
    known = known-lobes c.args.way.grid _ c.args.tone c.lobes_of-lobes.result c.partials_of-count.result c.partials_of-count.ensures.0 c.lobes_of-lobes.ensures.0;
  },
)

pub returns : goal.returns
returns c =
    let logs = logs_of c.args.table in
    let lobes = take c.partials_of-count.result c.lobes_of-lobes.result in
    let first = rw c.if-raised_together.false at c.raised_together.ensures.0 in
    let second = rw c.if-raised_together.false at c.raised_together.ensures.1 in (
      tone-raised c.args.way.grid logs c.args.tone _ c.partials_of-count.result c.lobes_of-lobes.result c.lobes_of-lobes.ensures.0 c.args.first.now
          (c.raise_lobes.ensures.0 ∙ ap (λ (xs : List Float). map_at (lobes_joined c.args.way.grid logs c.args.gains.first lobes) xs) first),
      tone-raised c.args.way.grid logs c.args.tone _ c.partials_of-count.result c.lobes_of-lobes.result c.lobes_of-lobes.ensures.0 c.args.second.now
          (c.raise_lobes.ensures.1 ∙ ap (λ (xs : List Float). map_at (lobes_joined c.args.way.grid logs c.args.gains.second lobes) xs) second),
    )
