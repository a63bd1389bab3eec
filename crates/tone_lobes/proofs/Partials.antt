-- The lobe of a tone's partial: where it begins and ends, and what its fields have. Assumes
-- nothing.
use mathlib.Core.Path.{◌≡◌, refl}
use Prim.Native.Nat.{ℕ, ◌≤◌}
use native.Mathlib.Omega.{arith}
use Rattle.power.specs.Log.{L2}
use Rattle.lobes.specs.declared.Grid.{Grid}
use Rattle.lobes.specs.declared.Tone.{Tone}
use Rattle.lobes.specs.Distance.{Logs}
use Rattle.lobes.specs.Lobe.{lobe_of}

-- a lobe ends with the bins
pub last-bin : (grid : Grid) (logs : Logs) (tone : Tone) (partial : ℕ) → (lobe_of grid logs tone partial).last_bin ≤ grid.last_bin
unfolding lobe_of
last-bin grid logs tone partial = omega arith

-- and never begins at bin 0
pub first-bin : (grid : Grid) (logs : Logs) (tone : Tone) (partial : ℕ) → 1 ≤ (lobe_of grid logs tone partial).first_bin
unfolding lobe_of
first-bin grid logs tone partial = omega arith

-- and its field has its centre's logarithm
pub center-log2 : (grid : Grid) (logs : Logs) (tone : Tone) (partial : ℕ) → (lobe_of grid logs tone partial).center_log2 ≡ L2 (lobe_of grid logs tone partial).center
unfolding lobe_of
center-log2 grid logs tone partial = refl
