-- A partial's lobe: the bins that it reaches, and its openness at each of them. Its height is
-- normalised at the bin closest to its centre, so that a pitch between two bins is not weaker than
-- one on a bin. Assumes nothing.
use Rattle.std.specs.Prelude.{ℕ, min, max, Float}
use Rattle.std.specs.Float.{binary32}
use Rattle.std.specs.Float.Ieee.{sub, mul, div}
use Rattle.counts.specs.Counts.{floor_count, ceil_count}
use Rattle.float32.specs.Order.{maximum, clamp}
use Rattle.float32.specs.Powers.{square}
use Rattle.float32.specs.Remainder.{zero, one}
use Rattle.power.specs.Log.{L2}
use Rattle.lobes.specs.declared.Grid.{Grid}
use Rattle.lobes.specs.declared.Tone.{Tone}
use Rattle.lobes.specs.declared.Lobe.{Lobe}
use Rattle.lobes.specs.Tone.{center_of, harmonic_gain}
use Rattle.lobes.specs.Distance.{Logs, distance, bell}
use Rattle.lobes.specs.Peak.{closest_bin}

-- the bins of a lobe: from 1 up, and to the last
abbrev pub first_bin_of : Grid → Float → ℕ
first_bin_of grid center = max (floor_count (div binary32 (mul binary32 center grid.lower_ratio) grid.bin_hz)) 1

abbrev pub last_bin_of : Grid → Float → ℕ
last_bin_of grid center = min (ceil_count (div binary32 (mul binary32 center grid.upper_ratio) grid.bin_hz)) grid.last_bin

unfoldable pub lobe_of : Grid → Logs → Tone → ℕ → Lobe
lobe_of grid logs tone partial =
    let center = center_of tone partial in
    record {
      center = center;
      center_log2 = L2 center;
      strength = mul binary32 tone.level (harmonic_gain tone.rolloff partial);
      first_bin = first_bin_of grid center;
      last_bin = last_bin_of grid center;
      peak_squared = square (distance grid logs center (closest_bin center grid.bin_hz grid.last_bin));
    }

-- the square of a bin's distance minus that of the peak bin
unfoldable pub relative_square : Grid → Logs → Lobe → ℕ → Float
relative_square grid logs lobe bin = maximum (sub binary32 (square (distance grid logs lobe.center bin)) lobe.peak_squared) zero

-- the lobe's openness at a bin, from 0 to 1, before the voice's expression
unfoldable pub opening : Grid → Logs → Lobe → ℕ → Float
opening grid logs lobe bin = clamp zero one (mul binary32 lobe.strength (bell logs (relative_square grid logs lobe bin)))
