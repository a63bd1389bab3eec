-- The calls on a mixer. A turn with a strip's scene is a turn. Assumes nothing.
use Rattle.std.specs.Prelude.{List, [], ◌∷◌, ℕ, ◌+◌}

-- "A strip's request carries only its number"
pub data Call : Type 0 where
  request : ℕ → Call
  turn : Call

-- how many turns a list of calls has
unfoldable pub turns : List Call → ℕ
turns [] = 0
turns (request strip ∷ calls) = turns calls
turns (turn ∷ calls) = turns calls + 1
