-- Small fields in one number: "fields most significant first". Assumes nothing.
use Rattle.std.specs.Prelude.{ℕ, ◌+◌, ◌*◌, ◌/◌, ◌%◌, ◌^◌}

-- a field of so many bits behind those before it
abbrev pub then : ℕ → ℕ → ℕ → ℕ
then before bits value = before * 2 ^ bits + value

-- a field of so many bits, so many places from the end
abbrev pub field_at : ℕ → ℕ → ℕ → ℕ
field_at number places bits = number / 2 ^ places % 2 ^ bits
