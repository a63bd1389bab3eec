-- `raise_voices`: joining the voices from the current one on to what the bins hold now gives what
-- joining all of them to what the bins held at entry gives. Assumes nothing.
use mathlib.Core.Path.{refl, sym, ◌∙◌}
use Prim.Native.Nat.{◌≤◌}
use native.Mathlib.Omega.{arith}
use lib.ListN.{length, get_or}
use Rattle.scene.specs.Accepted.{no_voice}
use Rattle.lobes.proofs.Lent.{lent-at, if-lent}
use Rattle.openness.specs.Sides.{first_side, second_side}
use Rattle.openness.proofs.EachVoice.{voices-next, voices-end}
use Rattle.openness.proofs.ReadyVoices.{voice-open, voice-real}
use Rattle.openness.proofs.voices.raise_voices.Goals as goal

pub loop-index-init : goal.loop-index-init
loop-index-init c =
    (c.well_formed.1.1.1.1.1.1.1.1.1.1.1.1.0.1.0.1, refl, refl, refl, refl, refl, refl, λ table e compact. (lent-at _ e c.requires.walk compact).sides.sides)

pub offset_bounds-voices-index : goal.offset_bounds-voices-index
offset_bounds-voices-index c = omega arith

pub bounds-voices-index : goal.bounds-voices-index
bounds-voices-index c = omega arith

pub raise_voice-requires : goal.raise_voice-requires
raise_voice-requires c =
    let some : c.args.count ≤ length c.args.voices = omega (arith, c.requires.heard, c.loop-index.invariant.0) in
    record {
      scratch = record { chunk-64 = c.loop-index.invariant.3 ∙ c.requires.scratch.chunk-64; indexes-64 = c.loop-index.invariant.4 ∙ c.requires.scratch.indexes-64 };
      few = c.requires.few;
      on-grid = c.requires.on-grid;
      walk =
          if-lent _ c.requires.walk
          (λ table e walk compact.
          let k = walk compact in
          record {
            sides = record { ready = k.sides.ready; sides = c.loop-index.invariant.7 table e compact };
            grid-real = k.grid-real;
            voice-real = voice-real c.args.voices c.args.count c.loop-index.index some k.voices-real c.loop-index-test.true;
          });
    }

pub loop-index-preserved : goal.loop-index-preserved
loop-index-preserved c =
    let voice = get_or c.args.voices c.loop-index.index no_voice in
    let some : c.args.count ≤ length c.args.voices = omega (arith, c.requires.heard, c.loop-index.invariant.0) in (
      c.loop-index.invariant.0,
      omega (arith, c.raise_voice.auto.first, c.loop-index.invariant.1),
      omega (arith, c.raise_voice.auto.second, c.loop-index.invariant.2),
      omega (arith, c.raise_voice.auto.chunk, c.loop-index.invariant.3),
      omega (arith, c.raise_voice.auto.indexes, c.loop-index.invariant.4),
      voices-next _ _ _ _ _ c.loop-index.index _ some c.loop-index-test.true c.raise_voice.ensures.0 ∙ c.loop-index.invariant.5,
      voices-next _ _ _ _ _ c.loop-index.index _ some c.loop-index-test.true c.raise_voice.ensures.1 ∙ c.loop-index.invariant.6,
      λ table e compact.
          let k = lent-at _ e c.requires.walk compact in
          let o = c.loop-index.invariant.7 table e compact in
          let u = voice-real c.args.voices c.args.count c.loop-index.index some k.voices-real c.loop-index-test.true in
          let first = rw e at c.raise_voice.ensures.0 in
          let second = rw e at c.raise_voice.ensures.1 in
          record {
            first-open = voice-open c.args.way.grid k.grid-real table (first_side c.args.way.stereo) voice u c.loop-index.first o.first-open first;
            second-open = voice-open c.args.way.grid k.grid-real table (second_side c.args.way.stereo) voice u c.loop-index.second o.second-open second;
          },
    )

pub shape_of-first : goal.shape_of-first
shape_of-first c = c.loop-index.invariant.1

pub shape_of-second : goal.shape_of-second
shape_of-second c = c.loop-index.invariant.2

pub shape_of-chunk : goal.shape_of-chunk
shape_of-chunk c = c.loop-index.invariant.3

pub shape_of-indexes : goal.shape_of-indexes
shape_of-indexes c = c.loop-index.invariant.4

pub returns : goal.returns
returns c =
    let l = c.loop-index in
    (sym (voices-end _ _ _ _ _ l.index _ c.loop-index-test.false) ∙ l.invariant.5, sym (voices-end _ _ _ _ _ l.index _ c.loop-index-test.false) ∙ l.invariant.6)
