-- What a search over n entries answers, by a definition that gives n where it finds none. Assumes
-- nothing.
use Rattle.std.specs.Prelude.{◌≡◌, ◌<◌, ℕ, Option, MatchOption}

-- the place where one is found, none where there is none
abbrev pub Finds : ℕ → ℕ → Option ℕ → Type 0
Finds n place found = MatchOption found (n ≡ place) (λ i. (i ≡ place) × (i < n))
