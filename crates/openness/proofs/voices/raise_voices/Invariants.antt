-- `raise_voices`: joining the voices from the current one on to what the bins hold now gives what
-- joining all of them to what the bins held at entry gives. Assumes nothing.
use mathlib.Core.Path.{◌≡◌}
use mathlib.Core.Bool.{true}
use mathlib.Core.List.{List}
use lib.ListN.{length}
use lib.Ieee.{Float}
use Rattle.lobes.specs.Distance.{lent, logs_of}
use Rattle.lobes.specs.Pan.{channel_gain}
use Rattle.block_rows.specs.Premises.{SidesOpen}
use Rattle.openness.specs.Sides.{first_side, second_side}
use Rattle.openness.proofs.EachVoice.{voices-from}
use Rattle.openness.proofs.voices.raise_voices.Given as goal

abbrev pub invariant-loop-index : goal.invariant-loop-index
invariant-loop-index l =
    (length l.voices ≡ 128)
    × (length l.first ≡ length l.initial.first)
    × (length l.second ≡ length l.initial.second)
    × (length l.chunk ≡ length l.initial.chunk)
    × (length l.indexes ≡ length l.initial.indexes)
    × (voices-from l.way.grid (logs_of l.table) (channel_gain (first_side l.way.stereo)) l.voices l.count l.index l.first ≡ voices-from l.way.grid (logs_of l.table) (channel_gain (first_side l.way.stereo)) l.voices l.count 0 l.initial.first)
    × (voices-from l.way.grid (logs_of l.table) (channel_gain (second_side l.way.stereo)) l.voices l.count l.index l.second ≡ voices-from l.way.grid (logs_of l.table) (channel_gain (second_side l.way.stereo)) l.voices l.count 0 l.initial.second)
    × ((table : List Float) → logs_of l.table ≡ lent table → l.way.compact ≡ true → SidesOpen l.first l.second)
