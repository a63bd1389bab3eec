-- Reading the two masks of a bank, in the words of request 105: "the masks read are those of the
-- stereo call". A bank that no call made may say a count over 128, which is then refused. Assumes
-- nothing.
use Rattle.std.specs.Prelude.{List, ℕ, take, Float}
use Rattle.answer.specs.Reply.{Reply}
use Rattle.scene.specs.declared.MaskVoice.{MaskVoice}
use Rattle.scene.specs.declared.MaskConfig.{MaskConfig}
use Rattle.voice_records.specs.VoiceRecords.{voices_of_record}
use Rattle.voice_bank.specs.declared.Bank.{Bank}
use Rattle.lobes.specs.Pan.{Side}
use Rattle.lobes.specs.Distance.{lent}
use Rattle.mask_builder.specs.Mask.{mask_of}
use Rattle.refusals.specs.Masks.{stereo_reply}

-- the voices of a bank, those that count
abbrev pub voices_in : Bank → List MaskVoice
voices_in bank = take bank.count (voices_of_record bank.voices)

-- the answer, where the slices to write have m and n entries
abbrev pub read_reply : ℕ → ℕ → List Float → Bank → MaskConfig → List Float → Reply
read_reply m n curve bank config table =
    stereo_reply m n curve (voices_of_record bank.voices) bank.count config table

-- the mask of one side
abbrev pub read_mask : Side → List Float → Bank → MaskConfig → List Float → List Float
read_mask side curve bank config table = mask_of curve config (lent table) side (voices_in bank)
