-- `raised_together` goes the compact way where its caller allows it. Assumes nothing.
use Rattle.lobes.specs.Distance.{IfLent}
use Rattle.openness.proofs.raise.raised_together.Goals as goal

pub rasterize_compact_harmonic_envelope-requires : goal.rasterize_compact_harmonic_envelope-requires
unfolding IfLent
rasterize_compact_harmonic_envelope-requires c =
    let walk = rw c.in-Some.is at c.requires.walk in
    let k = walk c.if-way.true in (
      record { scratch = c.requires.scratch; few = c.requires.few; sound = k.sound },
      record { sides = k.sides.sides; gains = k.gains },
      k.sides.ready,
    )
