-- Document 01's sentence with the bound of request 103: "For each of the 128 notes at tuning 0 the
-- frequency f satisfies
-- (f * (1 - 2 ^ -20)) ^ 12 ≤ 440 ^ 12 * 2 ^ (note - 69) ≤ (f * (1 + 2 ^ -20)) ^ 12", over whole
-- numbers: f is above f / below f, and the denominators and 2 ^ 69 are multiplied out. Assumes
-- nothing.
use Rattle.std.specs.Prelude.{ℕ, ◌+◌, ◌-◌, ◌*◌, ◌^◌, ◌≤◌, Float}
use Rattle.float32.specs.Value.{above, below}

-- the 20 of the bound
abbrev pub tune_bits : ℕ
tune_bits = 20

pub record InTune (bits note : ℕ) (f : Float) : Type 0 where
  pub low : (above f * (2 ^ bits - 1)) ^ 12 * 2 ^ 69 ≤ 440 ^ 12 * 2 ^ note * (below f * 2 ^ bits) ^ 12
  pub high : 440 ^ 12 * 2 ^ note * (below f * 2 ^ bits) ^ 12 ≤ (above f * (2 ^ bits + 1)) ^ 12 * 2 ^ 69
