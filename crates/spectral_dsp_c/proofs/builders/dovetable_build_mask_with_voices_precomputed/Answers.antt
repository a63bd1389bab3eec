-- `dovetable_build_mask_with_voices_precomputed` meets its contract: the voices of the records are heard as the
-- array that they fill (proofs/Heard.antt). Assumes nothing.
use Rattle.std.proofs.Common.{List, length}
use Rattle.lobes.specs.Distance.{lent}
use Rattle.lobes.specs.Pan as side
use Rattle.mask_builder.specs.Mask.{mask_of}
use Rattle.refusals.specs.Masks.{tabled_mask_reply}
use Rattle.scene.specs.declared.MaskVoice.{MaskVoice}
use Rattle.scene.specs.declared.MaskConfig.{MaskConfig}
use Rattle.voice_records.specs.VoiceRecords.{voices_of_record}
use Rattle.crossing.specs.MaskSettings.{config_of}
use Rattle.lent_voices.proofs.Heard.{tabled-same, tabled-few}
use Rattle.spectral_dsp_c.proofs.Heard.{counted, given-heard, written-heard}
use Rattle.spectral_dsp_c.proofs.builders.dovetable_build_mask_with_voices_precomputed.Goals as goal

pub returns-clause-given : goal.returns-clause-given
returns-clause-given c =
    let a = c.args in
    let records = a.voices.now in
    let voices = voices_of_record records in
    let n = length records in
    given-heard records c.gather.result c.gather.ensures a.settings
    (λ (heard : List MaskVoice) (config : MaskConfig). tabled_mask_reply (length a.output.now) a.manual_mask_db.now heard n config a.table.now)
    (λ config. tabled-same voices n (counted records) (length a.output.now) a.manual_mask_db.now config a.table.now)
    _ _ _ c.tabled.ensures.given

pub returns-clause-output_after : goal.returns-clause-output_after
returns-clause-output_after c =
    let a = c.args in
    let records = a.voices.now in
    let voices = voices_of_record records in
    let n = length records in
    written-heard records c.gather.result c.gather.ensures a.settings
    (λ (heard : List MaskVoice) (config : MaskConfig). tabled_mask_reply (length a.output.now) a.manual_mask_db.now heard n config a.table.now)
    (λ config. tabled-same voices n (counted records) (length a.output.now) a.manual_mask_db.now config a.table.now)
    (λ config done. tabled-few voices n (counted records) (length a.output.now) a.manual_mask_db.now config a.table.now done)
    (mask_of a.manual_mask_db.now (config_of a.settings) (lent a.table.now) side.mono) a.output.now _ c.tabled.ensures.output_after
