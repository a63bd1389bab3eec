-- What the functions that raise lobes, a tone, a voice and voices ask of what they are lent, each
-- part under a name. What functions of a lower crate ask for too is named there: `Scratch` and
-- `OnGrid` in lobe_rows, `SidesOpen` and `GainsWithin` in block_rows. Nothing here
-- says what a mask is. Assumes nothing.
use Rattle.std.specs.Prelude.{◌≡◌, Bool, true, List, ℕ, ◌+◌, ◌≤◌, length, take, Float}
use Rattle.lists.specs.Totals.{All}
use Rattle.limits.specs.Lengths.{most_voices, max_partials, most_bin}
use Rattle.scene.specs.declared.MaskVoice.{MaskVoice}
use Rattle.scene.specs.Voices.{RealVoice}
use Rattle.lobes.specs.declared.Grid.{Grid}
use Rattle.lobes.specs.declared.Tone.{Tone}
use Rattle.lobes.specs.declared.Lobe.{Lobe}
use Rattle.lobes.specs.Distance.{Logs, IfLent}
use Rattle.lobe_rows.specs.declared.Gains.{Gains}
use Rattle.lobe_rows.specs.Premises.{Scratch, OnGrid}
use Rattle.block_rows.specs.Most.{SoundLobes}
use Rattle.block_rows.specs.Premises.{GainsWithin}
use Rattle.block_walk.specs.Compact.{RealTable}
use Rattle.openness.specs.declared.Way.{Way}
use Rattle.openness.specs.Scene.{RealGrid, SoundScene, SidesReady, ToneReady}

-- ---- what the walk by blocks asks for besides
pub record LobesWalk (way : Way) (table lows highs first second : List Float) (lobes : List Lobe)
    (count : ℕ) (by : Gains) : Type 0 where
  pub sides : SidesReady way.grid table lows highs first second
  pub sound : SoundLobes way.grid lobes count
  pub gains : GainsWithin by

pub record ToneWalk (way : Way) (table lows highs first second : List Float) (tone : Tone)
    (by : Gains) : Type 0 where
  pub sides : SidesReady way.grid table lows highs first second
  pub tone-ready : ToneReady way.grid tone by table

pub record VoiceWalk (way : Way) (table lows highs first second : List Float) (voice : MaskVoice) :
    Type 0 where
  pub sides : SidesReady way.grid table lows highs first second
  pub grid-real : RealGrid way.grid
  pub voice-real : RealVoice voice

pub record VoicesWalk (way : Way) (table lows highs first second : List Float)
    (voices : List MaskVoice) : Type 0 where
  pub sides : SidesReady way.grid table lows highs first second
  pub grid-real : RealGrid way.grid
  pub voices-real : All RealVoice voices

-- ---- a function's premises, over its parameters in their order
pub record RaiseTogether (first second chunk : List Float) (indexes : List ℕ)
    (way : Way) (logs : Logs) (lows highs : List Float) (lobes : List Lobe) (count : ℕ)
    (gains : Gains) : Type 0 where
  pub scratch : Scratch chunk indexes
  pub few : count ≤ max_partials
  pub walk : IfLent logs (λ table. way.compact ≡ true
      → LobesWalk way table lows highs first second lobes count gains)

pub record RaiseTone (first second chunk : List Float) (indexes : List ℕ)
    (way : Way) (logs : Logs) (lows highs : List Float) (tone : Tone) (gains : Gains) : Type 0 where
  pub scratch : Scratch chunk indexes
  pub few : way.grid.partials ≤ max_partials
  pub on-grid : OnGrid way.grid logs
  pub walk : IfLent logs (λ table. way.compact ≡ true
      → ToneWalk way table lows highs first second tone gains)

pub record RaiseVoice (first second chunk : List Float) (indexes : List ℕ)
    (way : Way) (logs : Logs) (lows highs : List Float) (voice : MaskVoice) :
    Type 0 where
  pub scratch : Scratch chunk indexes
  pub few : way.grid.partials ≤ max_partials
  pub on-grid : OnGrid way.grid logs
  pub walk : IfLent logs (λ table. way.compact ≡ true
      → VoiceWalk way table lows highs first second voice)

pub record RaiseVoices (first second chunk : List Float) (indexes : List ℕ)
    (way : Way) (logs : Logs) (lows highs : List Float) (voices : List MaskVoice) (count : ℕ) :
    Type 0 where
  pub scratch : Scratch chunk indexes
  pub few : way.grid.partials ≤ max_partials
  pub on-grid : OnGrid way.grid logs
  pub heard : count ≤ most_voices
  pub walk : IfLent logs (λ table. way.compact ≡ true
      → VoicesWalk way table lows highs first second (take count voices))

-- the ends of the table's blocks, where they are asked for
pub record EndsWhere (compact : Bool) (lows highs row : List Float) (logs : Logs) : Type 0 where
  pub lows-128 : length lows ≡ 128
  pub highs-128 : length highs ≡ 128
  pub row-64 : length row ≡ 64
  pub long : IfLent logs (λ table. compact ≡ true → length table ≤ most_bin + 1)
  pub table-real : IfLent logs (λ table. compact ≡ true → RealTable table)

-- the two that fill masks
pub record Open (logs : Logs) (voices : List MaskVoice) (count : ℕ) (grid : Grid) : Type 0 where
  pub few : grid.partials ≤ max_partials
  pub on-grid : OnGrid grid logs
  pub heard : count ≤ most_voices
  pub scene : IfLent logs (λ table. SoundScene grid (take count voices) table)
