-- The voices joined onto an openness of 0 in every bin are the openness of every bin. Assumes
-- nothing.
use mathlib.Core.Path.{◌≡◌, ap, ◌∙◌}
use mathlib.Core.List.{List}
use Prim.Native.Nat.{ℕ}
use lib.Ieee.{Float}
use Rattle.float32.specs.Remainder.{zero}
use Rattle.lists.specs.Folds.{fold}
use Rattle.lists.specs.Maps.{tabulate}
use Rattle.scene.specs.declared.MaskVoice.{MaskVoice}
use Rattle.lobes.specs.declared.Grid.{Grid}
use Rattle.lobes.specs.Pan.{Side, channel_gain}
use Rattle.lobes.specs.Distance.{Logs}
use Rattle.openness.specs.Openness.{voice_joined, openness}
use Rattle.lists.specs.Runs.{map-tab, runs}

pub opened : (grid : Grid) (logs : Logs) (side : Side) (voices : List MaskVoice) (n : ℕ) {xs ys : List Float} → xs ≡ tabulate n (λ bin. zero)
    → ys ≡ runs (voice_joined grid logs (channel_gain side)) voices xs → ys ≡ tabulate n (openness grid logs side voices)
unfolding openness
opened grid logs side voices n e w =
    w ∙ ap (runs (voice_joined grid logs (channel_gain side)) voices) e ∙ map-tab (λ bin held. fold (voice_joined grid logs (channel_gain side) bin) held voices) (λ bin. zero) n
