-- `voices_of` meets its contract: the array fills from its start. Assumes nothing.
use mathlib.Core.Path.{◌≡◌, sym, ap, ◌∙◌}
use Prim.Native.Nat.{ℕ}
use native.Mathlib.Omega.{arith}
use lib.ListN.{length, set}
use borrow.Author.Rules.{rules}
use Rattle.scene.specs.Gathered.{gathered_to}
use Rattle.scene.proofs.Gathered.{gathered_none, gathered-more}
use Rattle.voice_records.specs.VoiceRecords.{voices_of_record}
use Rattle.voice_records.proofs.RecordVoices.{length-voices, voice-at, all-filled}
use Rattle.voice_records.proofs.voices_of.Goals as goal

pub loop-i-init : goal.loop-i-init
loop-i-init c = c.silent_voices-voices.ensures ∙ sym (gathered_none _)

pub offset_bounds-records-i : goal.offset_bounds-records-i
offset_bounds-records-i c = omega arith

pub loop-i-preserved : goal.loop-i-preserved
loop-i-preserved c =
    let records = c.args.records in
    let l : length records ≡ 128 = search rules in
    let there = length-voices records in
    let same = c.from.ensures ∙ sym (voice-at records c.loop-i.i) in
    ap (λ voices. set voices c.loop-i.i c.from.result) c.loop-i.invariant
    ∙ ap (set (gathered_to c.loop-i.i (voices_of_record records)) c.loop-i.i) same
    ∙ gathered-more (voices_of_record records) c.loop-i.i (omega arith) (omega arith)

pub returns : goal.returns
returns c =
    let records = c.args.records in
    let l : length records ≡ 128 = search rules in
    let z : c.loop-i.i ≡ 128 = omega arith in
    c.loop-i.invariant
    ∙ ap (λ (n : ℕ). gathered_to n (voices_of_record records)) z
    ∙ all-filled (voices_of_record records) (length-voices records ∙ l)
