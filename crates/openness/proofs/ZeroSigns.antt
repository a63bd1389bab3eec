-- With equal settings and table entries the openness of a bin is the same, whatever the signs of
-- zeros among them: each lobe is the same and opens the same on the bins that it is on. Assumes
-- nothing.
use mathlib.Core.Path.{◌≡◌, refl, ap, ◌∙◌}
use mathlib.Core.Bool.{Bool, true, false, cond, ◌&&◌}
use mathlib.Core.List.{List, [], ◌∷◌}
use Prim.Native.Nat.{ℕ, ◌≤◌}
use native.Mathlib.Nat.{le_trans}
use lib.Dec.{T, leb, leb→le}
use lib.Ieee.{Float, binary32, le, mul}
use lib.Ieee.Fits.{and_l, and_r}
use Rattle.lists.specs.Folds.{fold}
use Rattle.float32.specs.Order.{maximum}
use Rattle.float32.specs.Remainder.{zero}
use Rattle.scene.specs.declared.MaskVoice.{MaskVoice}
use Rattle.lobes.specs.declared.Grid.{Grid}
use Rattle.lobes.specs.declared.Lobe.{Lobe}
use Rattle.lobes.specs.Pan.{Side, channel_gain}
use Rattle.lobes.specs.Tone.{tone_of}
use Rattle.lobes.specs.Distance.{lent}
use Rattle.lobes.specs.Lobe.{lobe_of, opening}
use Rattle.lobes.proofs.ZeroSigns.{SameGrid, SameTable, lobe-same, opening-same, lobe-bins}
use Rattle.lobe_joins.specs.Joined.{lobe_joined}
use Rattle.tone_lobes.specs.ToneLobes.{partials_of}
use Rattle.openness.specs.Openness.{skipped_level, tone_joined, voice_joined, openness}

fold_same : {A S : Type 0} (f g : S → A → S) → ((s : S) (x : A) → f s x ≡ g s x) → (s : S) (xs : List A) → fold f s xs ≡ fold g s xs
unfolding fold
fold_same f g h s [] = refl
fold_same f g h s (x ∷ xs) = ap (λ z. fold f z xs) (h s x) ∙ fold_same f g h (g s x) xs

module _ (g h : Grid) (w : SameGrid g h) (s t : List Float) (some : 1 ≤ g.last_bin) (e : SameTable g.last_bin s t) (side : Side) (bin : ℕ) where
  module _ (voice : MaskVoice) (gain held : Float) (partial : ℕ) where
    abbrev lobe : Lobe
    lobe = lobe_of h (lent t) (tone_of h voice) partial

    abbrev reached : Bool
    reached = leb lobe.first_bin bin && leb bin lobe.last_bin

    opens-same : T reached → opening g (lent s) lobe bin ≡ opening h (lent t) lobe bin
    opens-same r =
        let b = lobe-bins g h w s t some e voice partial in
        opening-same g h w s t some e lobe bin
        (le_trans b.0 (leb→le lobe.first_bin bin (and_l (leb lobe.first_bin bin) (leb bin lobe.last_bin) r)))
        (le_trans (leb→le bin lobe.last_bin (and_r (leb lobe.first_bin bin) (leb bin lobe.last_bin) r)) b.1)

    joined_same : lobe_joined g (lent s) gain bin held (lobe_of g (lent s) (tone_of g voice) partial) ≡ lobe_joined h (lent t) gain bin held lobe
    unfolding lobe_joined
    joined_same = ap (λ (l : Lobe). lobe_joined g (lent s) gain bin held l) (lobe-same g h w s t some e voice partial) ∙ go reached opens-same
      where
        go : (c : Bool) {x y : Float} → (T c → x ≡ y) → cond c (maximum held (mul binary32 x gain)) held ≡ cond c (maximum held (mul binary32 y gain)) held
        go true {x} {y} k = ap (λ (z : Float). maximum held (mul binary32 z gain)) (k tt)
        go false k = refl

  partials-same : (voice : MaskVoice) → partials_of g (tone_of g voice) ≡ partials_of h (tone_of h voice)
  unfolding tone_of
  partials-same voice = rw (w.nyquist, w.partials) refl

  voice-same : (held : Float) (voice : MaskVoice) → voice_joined g (lent s) (channel_gain side) bin held voice ≡ voice_joined h (lent t) (channel_gain side) bin held voice
  unfolding voice_joined tone_joined
  voice-same held voice =
      let gain = channel_gain side voice in
      ap (λ (o : Float). cond (le voice.level skipped_level) held o)
      (fold_same _ (λ (x : Float) (p : ℕ). lobe_joined h (lent t) gain bin x (lobe_of h (lent t) (tone_of h voice) p)) (λ x p. joined_same voice gain x p) held (partials_of g (tone_of g voice))
      ∙ ap (λ ps. fold (λ (x : Float) (p : ℕ). lobe_joined h (lent t) gain bin x (lobe_of h (lent t) (tone_of h voice) p)) held ps) (partials-same voice))

  pub openness-same : (voices : List MaskVoice) → openness g (lent s) side voices bin ≡ openness h (lent t) side voices bin
  unfolding openness
  openness-same voices = fold_same _ _ voice-same zero voices
