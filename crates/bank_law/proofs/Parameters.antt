-- What a function is told of a bank that it is passed (`c.good`): the floats of each voice of its
-- array are f32s. Assumes nothing.
use mathlib.Core.Bool.{Bool, true, false, cond}
use mathlib.Core.List.{List, [], ◌∷◌, map}
use Prim.Native.Nat.{ℕ, ◌<◌}
use native.Mathlib.Omega.{arith}
use lib.Count.{count_trailing_zeros}
use lib.Dec.{eqb}
use lib.ListN.{length, get_or, take, length-take}
use lib.Seq.{get_or-take}
use lib.Ieee.{Float, fits, of_bits, of_fields, odd}
use mir.Val.{Val}
use denote.Laws.{Is}
use denote.Shadow.{shadow}
use denote.Struct.Declared.{row}
use denote.Array.{Array}
use Rattle.float32.specs.Remainder.{zero}
use Rattle.scene.specs.declared.MaskVoice.{MaskVoice}
use Rattle.scene.specs.declared.Pitch.TheVariants.{Note, Hertz}
use Rattle.scene.specs.Accepted.{no_voice}
use Rattle.scene.specs.F32.{F32, F32Pitch, F32Voice, F32Voices}
use Rattle.scene.specs.PitchNumbers.{note_form, hertz_form, pitch_of}
use Rattle.refusals.proofs.Parameters.{held, each_at}
use Rattle.voice_records.specs.declared.VoiceRecord.{VoiceRecord}
use Rattle.voice_records.specs.VoiceRecords.{voice_of, voices_of_record, no_record}
use Rattle.voice_records.specs.contracts.VoiceRecord as record-type
use Rattle.voice_records.proofs.RecordVoices.{length-voices, voice-at}
use Rattle.voice_bank.specs.declared.Bank.{Bank}
use Rattle.voice_bank.specs.contracts.Bank as bank-type

pitch-f32 : (form note : ℕ) (x : Float) → F32 x → F32Pitch (pitch_of form note x)
unfolding pitch_of of_bits of_fields odd count_trailing_zeros fits
pitch-f32 form note x f = go (eqb form note_form) (eqb form hertz_form)
  where
    go : (a b : Bool) → F32Pitch (cond a (Note note x) (cond b (Hertz x) (Hertz zero)))
    go true b = f
    go false true = f
    go false false = tt

-- the fields in their order
voice-f32 :
    (given : VoiceRecord) (vs : List Val)
    → Is (row record-type.the_type) given vs
    → F32Voice (voice_of given)
unfolding voice_of
voice-f32 given vs told =
    let f = told.1.1.1.1 in
    record {
      pitch =
          pitch-f32 given.pitch_form given.note given.semitones_or_hertz
          (held f.0.1);
      level = held f.1.0.1;
      pressure = held f.1.1.0.1;
      timbre = held f.1.1.1.0.1;
      volume = held f.1.1.1.1.0.1;
      expression = held f.1.1.1.1.1.0.1;
      pan = held f.1.1.1.1.1.1.0.1;
    }

voices-f32 :
    (n : ℕ) (records : List VoiceRecord) (vs : List Val)
    → Is (Array (row record-type.the_type) n) records vs
    → F32Voices (voices_of_record records)
voices-f32 n records vs told i h =
    let l : i < length records = omega (arith, length-voices records) in
    let e =
    each_at VoiceRecord (row record-type.the_type).own_val records
    told.0 told.1.1 i no_record l in
    rw (voice-at records i) (voice-f32 (get_or records i no_record) (e.0 ∷ []) e.1)

pub bank-f32 :
    (bank : Bank) (vs : List Val) → Is (row bank-type.the_type) bank vs
    → F32Voices (voices_of_record bank.voices)
bank-f32 bank vs told = voices-f32 128 bank.voices _ told.1.1.1.0

-- so are those of the voices that count
pub counted-f32 : (n : ℕ) (voices : List MaskVoice) → F32Voices voices → F32Voices (take n voices)
counted-f32 n voices f i h =
    let e = length-take n voices in
    rw (get_or-take n voices i no_voice (omega (arith, e))) (f i (omega (arith, e)))
