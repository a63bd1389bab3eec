-- A voice as a record of plain numbers, and the record of a voice. Assumes nothing.
use Rattle.std.specs.Prelude.{List, map}
use Rattle.std.specs.Float.{nan}
use Rattle.scene.specs.declared.MaskVoice.{MaskVoice}
use Rattle.scene.specs.PitchNumbers.{note_form, pitch_of, form_of, note_of, number_of}
use Rattle.voice_records.specs.declared.VoiceRecord.{VoiceRecord}

unfoldable pub voice_of : VoiceRecord → MaskVoice
voice_of given =
    record {
      pitch = pitch_of given.pitch_form given.note given.semitones_or_hertz;
      level = given.level;
      pressure = given.pressure;
      timbre = given.timbre;
      volume_gain = given.volume_gain;
      expression_gain = given.expression_gain;
      pan = given.pan;
    }

-- by hertz the note is 0
unfoldable pub plain_voice : MaskVoice → VoiceRecord
plain_voice voice =
    record {
      pitch_form = form_of voice.pitch;
      note = note_of voice.pitch;
      semitones_or_hertz = number_of voice.pitch;
      level = voice.level;
      pressure = voice.pressure;
      timbre = voice.timbre;
      volume_gain = voice.volume_gain;
      expression_gain = voice.expression_gain;
      pan = voice.pan;
    }

abbrev pub voices_of_record : List VoiceRecord → List MaskVoice
voices_of_record records = map voice_of records

-- the default for reads past the end of a list of records, which no result depends on
abbrev pub no_record : VoiceRecord
no_record =
    record {
      pitch_form = note_form;
      note = 0;
      semitones_or_hertz = nan;
      level = nan;
      pressure = nan;
      timbre = nan;
      volume_gain = nan;
      expression_gain = nan;
      pan = nan;
    }
