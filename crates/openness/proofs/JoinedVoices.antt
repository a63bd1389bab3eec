-- The openness of a bin under two lists of voices joined is the greater of its openness under each,
-- to the bit: a lobe joins by maximum, so does a voice, skipped or not, and so does a list. Assumes
-- nothing.
use mathlib.Core.Path.{◌≡◌, sym, ◌∙◌}
use mathlib.Core.Bool.{Bool, true, false, cond}
use mathlib.Core.List.{List, ◌++◌}
use Prim.Native.Nat.{ℕ}
use lib.Ieee.{Float, le}
use Rattle.lists.specs.Folds.{fold, fold-append}
use Rattle.lists.specs.Totals.{All}
use Rattle.float32.specs.Order.{maximum}
use Rattle.float32.specs.Remainder.{zero}
use Rattle.scene.specs.declared.MaskVoice.{MaskVoice}
use Rattle.scene.specs.Voices.{RealVoice}
use Rattle.lobes.specs.declared.Grid.{Grid}
use Rattle.lobes.specs.Pan.{Side, channel_gain}
use Rattle.lobes.specs.Distance.{lent}
use Rattle.lobe_joins.specs.Joined.{lobe_joined}
use Rattle.lobe_joins.proofs.Maxima.{FitWhere}
use Rattle.lobe_joins.proofs.Grouped.{with-zero, ByMaximum, where-by-maximum, fold-by-maximum}
use Rattle.openness.specs.Openness.{skipped_level, tone_joined, voice_joined, openness}
use Rattle.openness.proofs.RaisedVoices.{Fair, there, opens, joined, partials, partial-join}
use Rattle.openness.proofs.RaisedVoices.{open-partials, voice-join, openness-upto}

module _ (grid : Grid) (fair : Fair grid) (table : List Float) (side : Side) (bin : ℕ) where
  partial-by-maximum :
      (voice : MaskVoice)
      → ByMaximum
      (FitWhere (there grid fair table side bin voice) (opens grid fair table side bin voice))
      (joined grid fair table side bin voice)
  unfolding lobe_joined
  partial-by-maximum voice =
      where-by-maximum (there grid fair table side bin voice)
      (opens grid fair table side bin voice)

  voice-by-maximum : ByMaximum RealVoice (voice_joined grid (lent table) (channel_gain side) bin)
  unfolding voice_joined tone_joined
  voice-by-maximum s x u o = go (le x.level skipped_level)
    where
      ps : List ℕ
      ps = partials grid fair table side bin x

      run : Float → Float
      run held = fold (joined grid fair table side bin x) held ps

      go : (b : Bool) → cond b s (run s) ≡ maximum s (cond b zero (run zero))
      go true = sym (with-zero o)
      go false =
          fold-by-maximum (partial-join grid fair table side bin x) (partial-by-maximum x) s ps
          (open-partials grid fair table side bin x u) o

  pub openness-joined :
      (xs ys : List MaskVoice) → All RealVoice xs → All RealVoice ys
      → openness grid (lent table) side (xs ++ ys) bin
      ≡ maximum (openness grid (lent table) side xs bin) (openness grid (lent table) side ys bin)
  unfolding openness
  openness-joined xs ys u v =
      fold-append (voice_joined grid (lent table) (channel_gain side) bin) zero xs ys
      ∙ fold-by-maximum (voice-join grid fair table side bin) voice-by-maximum
      (fold (voice_joined grid (lent table) (channel_gain side) bin) zero xs) ys v
      (unfold openness in openness-upto grid fair table side bin xs u)
