-- What the mask builders answer: document 01's tests in the order of the refusals' numbers, over
-- what each call has. Assumes nothing.
use Rattle.std.specs.Prelude.{Bool, cond, not, ◌&&◌, ◌||◌, List, [], ℕ, eqb, ltb, length, Float}
use Rattle.lists.specs.Folds.{first_bad}
use Rattle.answer.specs.Refusal.{SIZE_OR_RATE, SETTING, VOICE_COUNT, LENGTH, VOICE, TABLE_ENTRY, LIST_VALUE}
use Rattle.answer.specs.Reply.{Reply, done, refused}
use Rattle.limits.specs.Limits as limits
use Rattle.limits.specs.Lengths as lengths
use Rattle.limits.specs.Lengths.{most_voices, manual_mask_points, midi_notes}
use Rattle.scene.specs.declared.MaskVoice.{MaskVoice}
use Rattle.scene.specs.declared.MaskConfig.{MaskConfig}
use Rattle.scene.specs.Accepted.{size_accepted, settings_accepted, first_voice_outside}

-- "Masks and table: size/2 + 1"
abbrev pub bins : MaskConfig → ℕ
bins config = lengths.bins config.fft_size

-- the lowest index, from 1 on, of a table entry outside its limits, or the table's length
abbrev pub entry_accepted : ℕ → Float → Bool
entry_accepted bin entry = eqb bin 0 || limits.table_entry entry

abbrev pub first_entry_outside : List Float → ℕ
first_entry_outside table = first_bad entry_accepted table

-- "Tests run in the order of the numbers": the first of two replies that is a refusal, done where
-- neither is
abbrev pub first : Reply → Reply → Reply
first (done values) reply = reply
first (refused number place) reply = refused number place

-- Refusals 1 and 2: size and rate, and every other setting
unfoldable pub settings_reply : MaskConfig → Reply
settings_reply config =
    cond (not (size_accepted config)) (refused SIZE_OR_RATE 0)
    (cond (not (settings_accepted config)) (refused SETTING 0)
    (done []))

-- Refusals 3, 4 and 5: the number of voices, the lengths, and a voice at its index
unfoldable pub voices_reply : List MaskVoice → ℕ → Bool → Reply
voices_reply voices count lengths =
    let voice = first_voice_outside voices count in
    cond (ltb most_voices count) (refused VOICE_COUNT 0)
    (cond (not lengths) (refused LENGTH 0)
    (cond (ltb voice count) (refused VOICE voice)
    (done [])))

-- Refusal 6: a table entry at its index
unfoldable pub table_reply : List Float → Reply
table_reply table =
    let entry = first_entry_outside table in
    cond (ltb entry (length table)) (refused TABLE_ENTRY entry) (done [])

-- Refusals 4 and 7 of `build_mask`: the lengths, and a level at its note
unfoldable pub levels_reply : List Float → Bool → Reply
levels_reply levels lengths =
    let note = first_bad (λ note level. limits.level level) levels in
    cond (not lengths) (refused LENGTH 0)
    (cond (ltb note (length levels)) (refused LIST_VALUE note)
    (done []))

-- ---- the calls; an output has n entries, left m
-- `build_mask`
unfoldable pub mask_reply : ℕ → List Float → List Float → MaskConfig → Reply
mask_reply n curve levels config =
    let others = eqb (length curve) manual_mask_points && eqb (length levels) midi_notes in
    first (settings_reply config) (levels_reply levels (eqb n (bins config) && others))

-- `build_mask_with_voices`
unfoldable pub voices_mask_reply : ℕ → List Float → List MaskVoice → ℕ → MaskConfig → Reply
voices_mask_reply n curve voices count config =
    let lengths = eqb n (bins config) && eqb (length curve) manual_mask_points in
    first (settings_reply config) (voices_reply voices count lengths)

-- `build_mask_with_voices_precomputed`
unfoldable pub tabled_mask_reply : ℕ → List Float → List MaskVoice → ℕ → MaskConfig → List Float → Reply
tabled_mask_reply n curve voices count config table =
    let lent = eqb (length curve) manual_mask_points && eqb (length table) (bins config) in
    let voices-reply = voices_reply voices count (eqb n (bins config) && lent) in
    first (settings_reply config) (first voices-reply (table_reply table))

-- `build_stereo_masks_with_voices_precomputed`
unfoldable pub stereo_reply : ℕ → ℕ → List Float → List MaskVoice → ℕ → MaskConfig → List Float → Reply
stereo_reply m n curve voices count config table =
    let written = eqb m (bins config) && eqb n (bins config) in
    let lent = eqb (length curve) manual_mask_points && eqb (length table) (bins config) in
    let voices-reply = voices_reply voices count (written && lent) in
    first (settings_reply config) (first voices-reply (table_reply table))
