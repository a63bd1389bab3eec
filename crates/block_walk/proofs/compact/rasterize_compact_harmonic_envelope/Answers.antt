-- `rasterize_compact_harmonic_envelope` walks where that costs less, and otherwise leaves both
-- sides unchanged. Assumes nothing.
use native.Mathlib.Omega.{arith}
use Rattle.block_walk.proofs.compact.rasterize_compact_harmonic_envelope.Goals as goal

pub span_of-span-requires : goal.span_of-span-requires
span_of-span-requires c =
    (c.requires.0.few, c.requires.2.last, λ p h. omega (arith, (c.requires.0.sound p h).last))

pub walk-requires : goal.walk-requires
walk-requires c =
    (c.requires.0, c.requires.1, record { some = omega (arith, c.if-count-lt2.false); ready = c.requires.2; last = c.span_of-span.ensures.0; within = c.span_of-span.ensures.2 })
