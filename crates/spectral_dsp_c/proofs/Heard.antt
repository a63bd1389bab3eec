-- For the array that a slice of records fills, and the slice's length as the count, a builder
-- answers and writes what it does for the voices of the records. Assumes nothing.
use Rattle.std.proofs.Common.{◌≡◌, ℕ, ◌≤◌, List, length, take, sym, ap, ◌∙◌, subst}
use Rattle.std.specs.Float.{Float}
use Rattle.answer.specs.Reply.{Reply}
use Rattle.answer.specs.Written.{written}
use Rattle.scene.specs.declared.MaskVoice.{MaskVoice}
use Rattle.scene.specs.declared.MaskConfig.{MaskConfig}
use Rattle.scene.specs.Gathered.{gathered}
use Rattle.voice_records.specs.declared.VoiceRecord.{VoiceRecord}
use Rattle.voice_records.specs.VoiceRecords.{voices_of_record}
use Rattle.voice_records.proofs.RecordVoices.{length-voices}
use Rattle.refusals.proofs.MaskAccepted.{Done}
use Rattle.crossing.specs.Given.{Given}
use Rattle.crossing.specs.MaskSettings.{config_of, with_settings}
use Rattle.crossing.specs.declared.settings.Settings.{Settings}
use Rattle.crossing.proofs.Configs.{with-same, with-done}
use Rattle.crossing.proofs.Replies.{given, left}
use Rattle.lent_voices.proofs.Heard.{written_same}

pub counted : (records : List VoiceRecord) → length records ≡ length (voices_of_record records)
counted records = sym (length-voices records)

module _ (records : List VoiceRecord) (array : List MaskVoice)
    (filled : array ≡ gathered (voices_of_record records)) (settings : Settings)
    (reply : List MaskVoice → MaskConfig → Reply)
    (same : (config : MaskConfig) → reply (gathered (voices_of_record records)) config ≡ reply (voices_of_record records) config) where
  replied : with_settings settings (reply array) ≡ with_settings settings (reply (voices_of_record records))
  replied = with-same settings _ _ (λ config. ap (λ (heard : List MaskVoice). reply heard config) filled ∙ same config)

  pub given-heard :
      (r p q : ℕ) → Given (with_settings settings (reply array)) r p q
      → Given (with_settings settings (reply (voices_of_record records))) r p q
  given-heard r p q g = given replied g

  pub written-heard :
      ((config : MaskConfig) → Done (reply (gathered (voices_of_record records)) config) → length records ≤ 128)
      → (mask : List MaskVoice → List Float) (old new : List Float)
      → new ≡ written (with_settings settings (reply array)) (mask (take (length records) array)) old
      → new ≡ written (with_settings settings (reply (voices_of_record records))) (mask (voices_of_record records)) old
  written-heard few mask old new w =
      left _ _ replied
      (w
      ∙ ap (λ (heard : List MaskVoice).
      written (with_settings settings (reply array)) (mask (take (length records) heard)) old) filled
      ∙ written_same (voices_of_record records) (length records) (counted records) mask old (with_settings settings (reply array))
      (λ t. few (config_of settings)
      (subst Done (ap (λ (heard : List MaskVoice). reply heard (config_of settings)) filled) (with-done settings (reply array) t))))
