-- What `build_stereo_masks_with_voices_precomputed` answers and writes on a lent slice of voice
-- records: its voices are all the records of the slice. Assumes nothing.
use Rattle.std.specs.Prelude.{List, ℕ, length, Float}
use Rattle.answer.specs.Reply.{Reply}
use Rattle.scene.specs.declared.MaskVoice.{MaskVoice}
use Rattle.scene.specs.declared.MaskConfig.{MaskConfig}
use Rattle.lobes.specs.Pan.{Side}
use Rattle.lobes.specs.Distance.{lent}
use Rattle.mask_builder.specs.Mask.{mask_of}
use Rattle.refusals.specs.Masks.{stereo_reply}

-- the answer, where the slices to write have m and n entries: over 128 records are refused under 3
abbrev pub lent_reply : ℕ → ℕ → List Float → List MaskVoice → MaskConfig → List Float → Reply
lent_reply m n curve records config table =
    stereo_reply m n curve records (length records) config table

-- the mask of one side, all its size/2 + 1 bins
abbrev pub lent_mask : Side → List Float → List MaskVoice → MaskConfig → List Float → List Float
lent_mask side curve records config table = mask_of curve config (lent table) side records
