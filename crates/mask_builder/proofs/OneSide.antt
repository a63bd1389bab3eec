-- Where every voice that is not skipped is at the centre, either side's openness is that of the
-- mono mask: both balances are 1 there. So the right mask may be copied from the left.
-- Assumes nothing.
use mathlib.Core.Path.{◌≡◌, refl, ap, ◌∙◌}
use mathlib.Core.Bool.{Bool, true, false, cond, ◌||◌}
use mathlib.Core.List.{List, [], ◌∷◌}
use Prim.Native.Nat.{ℕ, suc}
use lib.Dec.{T}
use lib.Ieee.{Float, eq, le}
use lib.Ieee.Fits.{and_l, and_r}
use Rattle.lists.specs.Folds.{fold}
use Rattle.lists.specs.Tested.{every}
use Rattle.float32.specs.Remainder.{zero}
use Rattle.scene.specs.declared.MaskVoice.{MaskVoice}
use Rattle.lobes.specs.declared.Grid.{Grid}
use Rattle.lobes.specs.Pan.{Side, mono, pan_of, balance, channel_gain}
use Rattle.lobes.specs.Tone.{tone_of}
use Rattle.lobes.specs.Distance.{Logs}
use Rattle.openness.specs.Openness.{skipped_level, tone_joined, voice_joined, openness}
use Rattle.mask_builder.specs.Centered.{centered, all_centered}

is_true : (b : Bool) → T b → b ≡ true
is_true true t = refl
is_true false t = elim t [ ]

-- at the centre every side has the gain of the mono mask
same-gain : (side : Side) (voice : MaskVoice) → T (eq (pan_of voice) zero) → channel_gain side voice ≡ channel_gain mono voice
unfolding channel_gain balance
same-gain side voice t = rw (is_true (eq (pan_of voice) zero) t)

module _ (grid : Grid) (logs : Logs) (side : Side) (bin : ℕ) where
  same-voice : (held : Float) (voice : MaskVoice) → T (centered voice) → voice_joined grid logs (channel_gain side) bin held voice ≡ voice_joined grid logs (channel_gain mono) bin held voice
  unfolding voice_joined
  same-voice held voice t = go (le voice.level skipped_level) t
    where
      go : (b : Bool) → T (b || eq (pan_of voice) zero)
          → cond b held (tone_joined grid logs (channel_gain side voice) (tone_of grid voice) bin held) ≡ cond b held (tone_joined grid logs (channel_gain mono voice) (tone_of grid voice) bin held)
      go true t = refl
      go false t = ap (λ gain. tone_joined grid logs gain (tone_of grid voice) bin held) (same-gain side voice t)

  same-run : (j : ℕ) (held : Float) (voices : List MaskVoice) → T (every (λ index voice. centered voice) j voices)
      → fold (voice_joined grid logs (channel_gain side) bin) held voices ≡ fold (voice_joined grid logs (channel_gain mono) bin) held voices
  unfolding fold
  same-run j held [] t = refl
  same-run j held (voice ∷ voices) t =
      ap (λ h. fold (voice_joined grid logs (channel_gain side) bin) h voices) (same-voice held voice (and_l (centered voice) (every (λ index voice. centered voice) (suc j) voices) t))
      ∙ same-run (suc j) (voice_joined grid logs (channel_gain mono) bin held voice) voices (and_r (centered voice) (every (λ index voice. centered voice) (suc j) voices) t)

  pub one_side : (voices : List MaskVoice) → T (all_centered voices) → openness grid logs side voices bin ≡ openness grid logs mono voices bin
  unfolding openness
  one_side voices t = same-run 0 zero voices t
