-- What the walk by blocks asks of a scene, of a tone of it, and of the sides that are raised.
-- Nothing here says what a mask is: both ways of raising a tone write the same. Assumes nothing.
use Rattle.std.specs.Prelude.{◌≡◌, List, ℕ, ◌+◌, ◌≤◌, T, length, take, Float}
use Rattle.std.specs.Float.{binary32}
use Rattle.std.specs.Float.Ieee.{lt}
use Rattle.lists.specs.Totals.{All}
use Rattle.float_laws.specs.Units.{real}
use Rattle.float_laws.specs.Round.{plus_zero}
use Rattle.limits.specs.Lengths.{max_partials, most_bin}
use Rattle.scene.specs.declared.MaskVoice.{MaskVoice}
use Rattle.scene.specs.Voices.{RealVoice}
use Rattle.lobes.specs.declared.Grid.{Grid}
use Rattle.lobes.specs.declared.Tone.{Tone}
use Rattle.lobes.specs.declared.Lobe.{Lobe}
use Rattle.lobes.specs.Distance.{lent}
use Rattle.lobe_rows.specs.declared.Gains.{Gains}
use Rattle.block_rows.specs.Most.{SoundLobes}
use Rattle.block_rows.specs.Premises.{SidesOpen, GainsWithin}
use Rattle.block_walk.specs.Compact.{RealTable, Ready}
use Rattle.tone_lobes.specs.ToneLobes.{partials_of, lobes_of}

-- a width and a rolloff of accepted settings
pub record RealGrid (grid : Grid) : Type 0 where
  pub width-real : T (real binary32 grid.width)
  pub width_above : T (lt plus_zero grid.width)
  pub rolloff-real : T (real binary32 grid.rolloff)
  pub few : grid.partials ≤ max_partials

-- what the walk asks of a tone: its lobes are sound however they are listed
abbrev pub SoundTone : Grid → List Float → Tone → Type 0
SoundTone grid table tone = (lobes : List Lobe) (n : ℕ) → n ≡ length (partials_of grid tone) → take n lobes ≡ lobes_of grid (lent table) tone → SoundLobes grid lobes n

-- an accepted scene, as the masks by a table are built from it
pub record SoundScene (grid : Grid) (voices : List MaskVoice) (table : List Float) : Type 0 where
  pub last : grid.last_bin ≤ most_bin
  pub long : length table ≤ most_bin + 1
  pub grid-real : RealGrid grid
  pub voices-real : All RealVoice voices
  pub table-real : RealTable table

-- what stands ready where a tone, a voice or voices may be raised by the walk: the ends of the
-- table's blocks, and sides that hold opennesses
pub record SidesReady (grid : Grid) (table lows highs first second : List Float) : Type 0 where
  pub ready : Ready grid table lows highs
  pub sides : SidesOpen first second

pub record ToneReady (grid : Grid) (tone : Tone) (by : Gains) (table : List Float) : Type 0 where
  pub sound : SoundTone grid table tone
  pub gains : GainsWithin by
