-- What the calls answer to accepted input, and what is known of it: equal temperament, of
-- `note_frequency`; a frequency that is finite, positive and normal and never falls as the tuning
-- rises; a gain that is finite and never negative. The tests pass, and the rest is known of the
-- core. Assumes nothing.
use mathlib.Core.Path.{◌≡◌, refl, ◌∙◌}
use mathlib.Core.List.{[], ◌∷◌}
use Prim.Native.Nat.{ℕ, ◌≤◌}
use native.Mathlib.Nat.{le_refl}
use borrow.Author.Tests.{le-leb}
use lib.Dec.{T}
use lib.Ieee.{Float, binary32, of_bits, le, fits}
use lib.Ieee.Bits.{is_true}
use Rattle.answer.specs.declared.Answer.{Answer}
use Rattle.answer.specs.Reply.{Reply, done, of_answer}
use Rattle.float_laws.specs.Units.{real}
use Rattle.float32.specs.Remainder.{zero}
use Rattle.float32.proofs.Limits.{within_low, within-high, within_real}
use Rattle.limits.specs.Limits as limits
use Rattle.limits.specs.Limits.{least_tuning, most_tuning}
use Rattle.power.specs.Log.{positive_normal}
use Rattle.decibels.specs.Gain.{gain_of}
use Rattle.pitch.specs.Pitch.{note_hertz}
use Rattle.pitch.specs.Tune.{tune_bits, InTune}
use Rattle.pitch.proofs.InTune.{equal-temperament}
use Rattle.pitch.proofs.Range.{Tuning, hertz-never-falls, hertz-real, hertz-normal}
use Rattle.oiko_dsp.specs.Calls.{db_to_gain, note_frequency, note_frequency_with_tuning}

-- ---- equal temperament
pub record TunedReply (bits note : ℕ) (reply : Reply) : Type 0 where
  pub hertz : Float
  pub number : reply ≡ done (hertz ∷ [])
  pub tuned : InTune bits note hertz

in_tune : (note : ℕ) → note ≤ 127 → InTune tune_bits note (note_hertz note zero)
unfolding of_bits
in_tune note h = equal-temperament note h

pub note-frequency-in-tune : (note : ℕ) → note ≤ 127 → (r : Answer) → of_answer r ≡ note_frequency note → TunedReply tune_bits note (of_answer r)
note-frequency-in-tune note h r e = record { hertz = note_hertz note zero; number = e ∙ answered; tuned = in_tune note h }
  where
    answered : note_frequency note ≡ done (note_hertz note zero ∷ [])
    answered = unfold note_frequency in rw (le-leb note 127 h) refl

-- ---- any accepted tuning
module _ (t : Float) (f : T (fits binary32 t)) (a : T (limits.tuning t)) where
  pub tuning-accepted : Tuning t
  unfolding of_bits fits
  tuning-accepted = record { finite = within_real least_tuning most_tuning t a binary32 f tt tt; least = within_low least_tuning most_tuning t a; most = within-high least_tuning most_tuning t a }

  module _ (note : ℕ) (h : note ≤ 127) where
    pub frequency-answered : note_frequency_with_tuning note t ≡ done (note_hertz note t ∷ [])
    unfolding note_frequency_with_tuning
    frequency-answered = rw (le-leb note 127 h, is_true (limits.tuning t) a) refl

    pub frequency-real : T (real binary32 (note_hertz note t))
    frequency-real = hertz-real note h t tuning-accepted

    pub frequency-normal : T (positive_normal (note_hertz note t))
    frequency-normal = hertz-normal note h t tuning-accepted

pub frequency-never-falls : (note : ℕ) → note ≤ 127 → (t u : Float) → T (fits binary32 t) → T (fits binary32 u) → T (limits.tuning t) → T (limits.tuning u) → T (le t u)
    → T (le (note_hertz note t) (note_hertz note u))
frequency-never-falls note h t u f g a b l = hertz-never-falls note note (le_refl note) h t u (tuning-accepted t f a) (tuning-accepted u g b) l

-- ---- decibels
pub gain-answered : (db : Float) → T (limits.decibels db) → db_to_gain db ≡ done (gain_of db ∷ [])
unfolding db_to_gain
gain-answered db a = rw (is_true (limits.decibels db) a) refl
