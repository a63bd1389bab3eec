-- Request 103: 'The argument that powers never fall as their exponent rises is made for any power
-- of two of steps up to 2^24 and then used for this one.' Assumes nothing.
use Rattle.std.specs.Prelude.{ℕ, ◌-◌, ◌^◌, ◌≤◌, T, Float}
use Rattle.std.specs.Float.Ieee.{le}
use Rattle.power.specs.Rules.{Root}
use Rattle.power.specs.Power.{power_of, E2}

-- p keeps the rule of a table of 2 ^ k steps
abbrev pub TableOf : ℕ → (ℕ → ℕ) → Type 0
TableOf k p = (j : ℕ) → j ≤ 2 ^ k → Root (2 ^ k) j (p j)

-- by any such table, for k high bits of F and 24 - k low ones: 2 ^ k steps, up to 2 ^ 24
abbrev pub PowersNeverFall : Type 0
PowersNeverFall =
    (k : ℕ) → k ≤ 24 → (p : ℕ → ℕ) → TableOf k p
    → (x y : Float) → T (le x y) → T (le (power_of (24 - k) p x) (power_of (24 - k) p y))

-- and by P
abbrev pub E2NeverFalls : Type 0
E2NeverFalls = (x y : Float) → T (le x y) → T (le (E2 x) (E2 y))
