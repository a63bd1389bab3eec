-- `advance_note_envelopes`: what it answers, and the bank it hands back or leaves in its slice. "A bank passed by value
-- comes back as it came" from a refused call. Assumes nothing.
use Rattle.std.specs.Prelude.{cond, not, List, [], ℕ, eqb, ltb, length, Float}
use Rattle.lists.specs.Folds.{first_bad}
use Rattle.answer.specs.Refusal.{SETTING, LENGTH, LIST_VALUE}
use Rattle.answer.specs.Reply.{Reply, done, refused, of_outcome}
use Rattle.answer.specs.declared.Envelopes.{Envelopes}
use Rattle.answer.specs.Written.{written}
use Rattle.limits.specs.Limits as limits
use Rattle.limits.specs.Lengths.{midi_notes, held_bytes}
use Rattle.envelopes.specs.Envelope.{advanced}

-- the answer in document 01's terms, and the bank
pub record Advance : Type 0 where
  pub reply : Reply
  pub bank : List Float

abbrev pub of_envelopes : Envelopes → Advance
of_envelopes r = record { reply = of_outcome r.outcome; bank = r.levels }

-- refusal 2: elapsed and fade; then the tests that follow
abbrev after_times : Float → Float → Reply → Reply
after_times elapsed fade rest =
    cond (not (limits.elapsed elapsed)) (refused SETTING 0)
    (cond (not (limits.fade fade)) (refused SETTING 0)
    rest)

-- refusal 4: the lengths of a bank and of bytes in slices; then the tests that follow
abbrev after_lengths : List Float → List ℕ → Reply → Reply
after_lengths levels held rest =
    cond (not (eqb (length levels) midi_notes)) (refused LENGTH 0)
    (cond (not (eqb (length held) held_bytes)) (refused LENGTH 0)
    rest)

-- refusal 7: a level, at its note
abbrev level_reply : List Float → Reply
level_reply levels =
    let note = first_bad (λ n level. limits.level level) levels in
    cond (ltb note (length levels)) (refused LIST_VALUE note) (done [])

-- for a bank by value, and for one in a slice
abbrev pub advance_reply : List Float → Float → Float → Reply
advance_reply levels elapsed fade = after_times elapsed fade (level_reply levels)

unfoldable pub bank_reply : List Float → List ℕ → Float → Float → Reply
bank_reply levels held elapsed fade =
    after_times elapsed fade (after_lengths levels held (level_reply levels))

abbrev pub advance_of : List Float → List ℕ → Float → Float → Advance
advance_of levels held elapsed fade =
    let reply = advance_reply levels elapsed fade in
    record { reply = reply; bank = written reply (advanced held elapsed fade levels) levels }
