-- Lobes joined to what a bin holds: "Lobes join by maximum." Everything here is a function of the
-- bin. Assumes nothing.
use Rattle.std.specs.Prelude.{cond, ◌&&◌, List, ℕ, leb, Float}
use Rattle.std.specs.Float.{nan, binary32}
use Rattle.std.specs.Float.Ieee.{mul}
use Rattle.lists.specs.Folds.{fold}
use Rattle.float32.specs.Order.{maximum}
use Rattle.lobes.specs.declared.Grid.{Grid}
use Rattle.lobes.specs.declared.Lobe.{Lobe}
use Rattle.lobes.specs.Distance.{Logs}
use Rattle.lobes.specs.Lobe.{opening}

-- what a bin holds, and what a lobe opens there; gain is the voice's expression on this side
abbrev pub joined : Float → Float → Float → Float
joined gain held opening = maximum held (mul binary32 opening gain)

-- a lobe joined to what a bin holds, where it reaches the bin
unfoldable pub lobe_joined : Grid → Logs → Float → ℕ → Float → Lobe → Float
lobe_joined grid logs gain bin held lobe =
    cond (leb lobe.first_bin bin && leb bin lobe.last_bin) (joined gain held (opening grid logs lobe bin)) held

-- what is read past the end of a list of lobes
abbrev pub no_lobe : Lobe
no_lobe = record { center = nan; center_log2 = nan; strength = nan; first_bin = 0; last_bin = 0; peak_squared = nan }

-- lobes joined one after the other to what a bin holds
unfoldable pub lobes_joined : Grid → Logs → Float → List Lobe → ℕ → Float → Float
lobes_joined grid logs gain lobes bin held = fold (λ held lobe. lobe_joined grid logs gain bin held lobe) held lobes
