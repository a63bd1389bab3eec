-- For the array that a list of voices fills, and a count that is the list's length, the tests of
-- the voices answer what they do for the list itself: more than 128 voices are refused, and of at
-- most 128 the array begins with the list. Assumes nothing.
use mathlib.Core.Path.{◌≡◌, refl, sym, ap, ◌∙◌, subst}
use mathlib.Core.Bool.{Bool, true, false, cond, not}
use mathlib.Core.List.{List, []}
use Prim.Native.Nat.{ℕ, ◌≤◌}
use lib.Dec.{T, ltb, nltb→le}
use lib.ListN.{length, take}
use lib.Seq.{take-length}
use Rattle.lists.specs.Folds.{first_bad}
use Rattle.answer.specs.Refusal.{VOICE_COUNT, LENGTH, VOICE}
use Rattle.answer.specs.Reply.{Reply, done, refused}
use Rattle.limits.specs.Lengths.{most_voices}
use Rattle.scene.specs.declared.MaskVoice.{MaskVoice}
use Rattle.scene.specs.Accepted.{voice_accepted}
use Rattle.scene.specs.Gathered.{gathered}
use Rattle.scene.proofs.Gathered.{take-gathered}
use Rattle.refusals.specs.Masks.{voices_reply}

-- a test that comes after refusal 3
after-three :
    (over : Bool) (rest : ℕ → Reply) {a b : ℕ} → (T (not over) → a ≡ b)
    → cond over (refused VOICE_COUNT 0) (rest a) ≡ cond over (refused VOICE_COUNT 0) (rest b)
after-three true rest e = refl
after-three false rest e = ap rest (e tt)

module _ (voices : List MaskVoice) (count : ℕ) (counted : count ≡ length voices) where
  pub all-heard : count ≤ 128 → take count (gathered voices) ≡ voices
  all-heard few =
      ap (λ (n : ℕ). take n (gathered voices)) counted
      ∙ take-gathered voices (subst (λ (n : ℕ). n ≤ 128) counted few)

  heard-same : count ≤ 128 → take count (gathered voices) ≡ take count voices
  heard-same few =
      all-heard few ∙ sym (take-length voices) ∙ ap (λ (n : ℕ). take n voices) (sym counted)

  pub voices-same :
      (lengths : Bool)
      → voices_reply (gathered voices) count lengths ≡ voices_reply voices count lengths
  unfolding voices_reply
  voices-same lengths =
      after-three (ltb most_voices count)
      (λ v. cond (not lengths) (refused LENGTH 0) (cond (ltb v count) (refused VOICE v) (done [])))
      (λ t. ap (λ (heard : List MaskVoice). first_bad (λ index voice. voice_accepted voice) heard)
      (heard-same (nltb→le most_voices count t)))
