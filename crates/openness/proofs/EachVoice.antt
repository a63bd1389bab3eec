-- The voices joined one after the other: a voice that is skipped leaves the bins as they are, and
-- what is left to join from a voice on. Assumes nothing.
use mathlib.Core.Path.{◌≡◌, sym, ap, ◌∙◌}
use mathlib.Core.Bool.{true, false}
use mathlib.Core.List.{List}
use Prim.Native.Nat.{ℕ, ◌+◌, ◌≤◌, ◌<◌}
use lib.ListN.{length, get_or, take, drop}
use lib.Ieee.{Float, le}
use Rattle.lists.specs.Maps.{map_at}
use Rattle.lists.specs.Folds.{rest-next, rest-none}
use Rattle.scene.specs.declared.MaskVoice.{MaskVoice}
use Rattle.scene.specs.Accepted.{no_voice}
use Rattle.lobes.specs.declared.Grid.{Grid}
use Rattle.lobes.specs.declared.Tone.{Tone}
use Rattle.lobes.specs.Tone.{tone_of}
use Rattle.lobes.specs.Distance.{Logs}
use Rattle.openness.specs.Openness.{skipped_level, tone_joined, voice_joined}
use Rattle.lists.specs.Runs.{map-none, runs, runs-step, runs-end}

module _ (grid : Grid) (logs : Logs) (gain : MaskVoice → Float) where
  abbrev pub with-voice : MaskVoice → List Float → List Float
  with-voice voice xs = map_at (λ bin held. voice_joined grid logs gain bin held voice) xs

  pub voice-skipped : (voice : MaskVoice) (xs : List Float) → le voice.level skipped_level ≡ true → xs ≡ with-voice voice xs
  unfolding voice_joined
  voice-skipped voice xs e = rw e (sym (map-none xs))

  pub voice-joined : (voice : MaskVoice) (xs : List Float) {ys : List Float} {own : Float} {tone : Tone} → le voice.level skipped_level ≡ false → own ≡ gain voice
      → tone ≡ tone_of grid voice → ys ≡ map_at (tone_joined grid logs own tone) xs → ys ≡ with-voice voice xs
  unfolding voice_joined
  voice-joined voice xs {ys} {own} {tone} e g t w = rw e (w ∙ ap (λ (o : Float). map_at (tone_joined grid logs o tone) xs) g ∙ ap (λ (u : Tone). map_at (tone_joined grid logs (gain voice) u) xs) t)

  module _ (voices : List MaskVoice) (count : ℕ) where
    -- what joining the voices from an index on makes of the bins
    abbrev pub voices-from : ℕ → List Float → List Float
    voices-from index xs = runs (voice_joined grid logs gain) (drop index (take count voices)) xs

    pub voices-next : (index : ℕ) (xs : List Float) {ys : List Float} → count ≤ length voices → index < count → ys ≡ with-voice (get_or voices index no_voice) xs
        → voices-from (index + 1) ys ≡ voices-from index xs
    voices-next index xs l h w = ap (voices-from (index + 1)) w ∙ sym (runs-step (voice_joined grid logs gain) xs (rest-next voices count index no_voice l h))

    pub voices-end : (index : ℕ) (xs : List Float) → count ≤ index → voices-from index xs ≡ xs
    voices-end index xs h = runs-end (voice_joined grid logs gain) xs (rest-none voices count index h)
