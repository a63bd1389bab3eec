-- What `slice::length`, `records::length` and `list::read` ensure. Assumes nothing.
use Rattle.std.specs.Prelude.{◌≡◌, ℕ, ◌≤◌, List, length, take, Float}

-- n counts entries at the start of xs. The second part follows from the first. Both are stated so
-- that the proof that Rattle makes of `&mut xs[..n]` finds them.
abbrev pub Counts : ℕ → List Float → Type 0
Counts n xs = (n ≤ length xs) × (n ≡ length (take n xs))

-- The same of bytes.
abbrev pub IsPrefixLen : ℕ → List ℕ → Type 0
IsPrefixLen n xs = (n ≤ length xs) × (n ≡ length (take n xs))
