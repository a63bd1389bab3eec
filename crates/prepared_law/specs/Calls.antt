-- Three whole calls, each from what it is given to what it answers and leaves in its lent slices,
-- by the definitions that its contract cites: `PreparedSpectrum::new`, `MaskWorkspace::prepare`,
-- and the stereo call, on a lent table and on a prepared block. Assumes nothing.
use Rattle.std.specs.Prelude.{List, ℕ, ◌*◌, length, take, drop, Float}
use Rattle.lists.specs.Maps.{tabulate}
use Rattle.answer.specs.Reply.{Reply}
use Rattle.answer.specs.Written.{written}
use Rattle.scene.specs.declared.MaskVoice.{MaskVoice}
use Rattle.scene.specs.declared.MaskConfig.{MaskConfig}
use Rattle.frequencies.specs.Frequency.{prepared}
use Rattle.lobes.specs.Pan.{Side}
use Rattle.lobes.specs.Pan as side
use Rattle.lobes.specs.Distance.{lent}
use Rattle.mask_builder.specs.Mask.{mask_of}
use Rattle.prepared_spectrum.specs.Block.{block_of}
use Rattle.refusals.specs.Masks.{stereo_reply}
use Rattle.list_calls.specs.Prepared.{prepare_reply}
use Rattle.processing_calls.specs.Processing.{prepared_reply}

-- ---- `PreparedSpectrum::new`; the block is as it was before the call
pub record NewCall : Type 0 where
  pub rate : Float
  pub window : List Float
  pub smooth : List Float
  pub overlap : ℕ
  pub block : List Float

abbrev pub new_of : Float → List Float → List Float → ℕ → List Float → NewCall
new_of rate window smooth overlap block =
    record { rate = rate; window = window; smooth = smooth; overlap = overlap; block = block }

-- "Its size is the window's length"
abbrev pub size_of : NewCall → ℕ
size_of new = length new.window

abbrev pub new_reply : NewCall → Reply
new_reply new =
    prepared_reply new.rate new.window new.smooth new.overlap (length new.block)

-- what it leaves in the block
abbrev pub block_after : NewCall → List Float
block_after new =
    written (new_reply new) (block_of new.rate new.window new.smooth new.overlap)
    new.block

-- "the frequency table begins after the four windows"
abbrev pub table_in : NewCall → List Float
table_in new = drop (4 * size_of new) (block_after new)

-- ---- `MaskWorkspace::prepare`: what it leaves in a table
abbrev pub table_after : Float → ℕ → List Float → List Float
table_after rate size table =
    written (prepare_reply (length table) rate size) (tabulate (length table) (prepared rate size))
    table

-- ---- the stereo call, beside its table; left and right are as they were before the call
pub record StereoCall : Type 0 where
  pub left : List Float
  pub right : List Float
  pub curve : List Float
  pub voices : List MaskVoice
  pub count : ℕ
  pub config : MaskConfig

abbrev pub stereo_of :
    List Float → List Float → List Float → List MaskVoice → ℕ → MaskConfig → StereoCall
stereo_of l r curve voices count config =
    record {
      left = l;
      right = r;
      curve = curve;
      voices = voices;
      count = count;
      config = config;
    }

-- what it answers, and what it leaves in left and right
pub record Built : Type 0 where
  pub reply : Reply
  pub left : List Float
  pub right : List Float

abbrev pub built_of : Reply → List Float → List Float → Built
built_of reply l r = record { reply = reply; left = l; right = r }

-- `build_stereo_masks_with_voices_precomputed`
abbrev pub on_table : StereoCall → List Float → Built
on_table call table =
    let reply =
    stereo_reply (length call.left) (length call.right) call.curve call.voices
    call.count call.config table in
    let voices = take call.count call.voices in
    let mask : Side → List Float =
    λ s. mask_of call.curve call.config (lent table) s voices in
    record {
      reply = reply;
      left = written reply (mask side.left) call.left;
      right = written reply (mask side.right) call.right;
    }

-- `build_stereo_masks_with_prepared_spectrum`
abbrev pub on_block : StereoCall → List Float → Built
on_block call block = on_table call (drop (4 * call.config.fft_size) block)
