-- The ranges over which a float is put into fixed point. Assumes nothing.
use Rattle.std.specs.Prelude.{false, pos, negsuc, Float}
use Rattle.std.specs.Float.{fin}

-- 2 ^ 23, from which on every f32 is a whole number
abbrev pub farthest : Float
farthest = fin false 1 (pos 23)

-- 2 ^ 9
abbrev pub nearby : Float
nearby = fin false 1 (pos 9)

-- 2 ^ -18
abbrev pub least : Float
least = fin false 1 (negsuc 17)
