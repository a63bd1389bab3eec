-- `gather` meets its contract: the array fills from its start, record by record. Assumes nothing.
use Rattle.std.proofs.Common.{List, length, set, sym, ap, ◌∙◌, arith}
use Rattle.scene.specs.declared.MaskVoice.{MaskVoice}
use Rattle.scene.specs.Gathered.{gathered_to}
use Rattle.scene.proofs.Gathered.{held_fits, gathered_none, gathered-more}
use Rattle.voice_records.specs.VoiceRecords.{voices_of_record}
use Rattle.voice_records.proofs.RecordVoices.{length-voices, voice-at}
use Rattle.crossing_voices.proofs.gather.Goals as goal

pub loop-i-init : goal.loop-i-init
loop-i-init c = c.silent_voices-array.ensures ∙ sym (gathered_none _)

pub loop-i-preserved : goal.loop-i-preserved
loop-i-preserved c =
    let records = c.args.records.now in
    let voices = voices_of_record records in
    let i = c.loop-i.i in
    let fits = held_fits (length records) in
    let long = length-voices records in
    let read = c.from.ensures ∙ sym (voice-at records i) in
    ap (λ (array : List MaskVoice). set array i c.from.result) c.loop-i.invariant
    ∙ ap (λ (voice : MaskVoice). set (gathered_to i voices) i voice) read
    ∙ gathered-more voices i (omega (arith, c.held-count.ensures, fits.0)) (omega (arith, c.held-count.ensures, fits.1))
