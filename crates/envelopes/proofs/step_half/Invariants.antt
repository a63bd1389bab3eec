-- `envelopes::step_half` meets its contract: after n iterations the first n levels of the half have
-- made their step, and the others are as they were. Assumes nothing.
use mathlib.Core.Path.{◌≡◌}
use mathlib.Core.List.{List}
use Prim.Native.Nat.{ℕ, ◌+◌, ◌-◌, ◌*◌, ◌%◌, ◌≤◌, ◌<◌}
use lib.Dec.{T}
use lib.ListN.{length}
use lib.Ieee.{Float}
use Rattle.lists.specs.Turned.{Turned}
use Rattle.limits.specs.Limits as limits
use Rattle.envelopes.specs.Envelope.{next_level, Accepted}
use Rattle.envelopes.specs.Words.{is_set}
use Rattle.envelopes.proofs.step_half.Given as goal

abbrev pub stepped : ℕ → Float → ℕ → Float → Float
stepped half alpha note level = next_level (is_set half (31 - note % 32)) alpha level

pub record Stepping (levels₀ : List Float) (half index : ℕ) (alpha : Float) (levels : List Float) (bit : ℕ) : Type 0 where
  pub turned : Turned (stepped half alpha) (32 * index) levels₀ levels (32 * index + bit)
  pub notes : length levels₀ ≡ 128
  pub within : (bit ≤ 32) × (index < 4)
  pub alpha-accepted : T (limits.level alpha)
  pub accepted : Accepted levels₀ (32 * index) (32 * index + 32)

abbrev pub invariant-loop-bit : goal.invariant-loop-bit
invariant-loop-bit l = Stepping l.initial.levels l.half l.index l.alpha l.levels l.bit
