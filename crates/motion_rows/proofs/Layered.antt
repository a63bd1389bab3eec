-- Drift's three layers over a row: each holds the sine of its angle at each position, and their
-- weighted sum is the drift there. Assumes nothing.
use mathlib.Core.Path.{◌≡◌, ap, ◌∙◌}
use mathlib.Core.List.{List}
use Prim.Native.Nat.{ℕ, ◌+◌, ◌≤◌, ◌<◌}
use lib.ListN.{length, get_or}
use lib.Ieee.{Float, nan}
use Rattle.lists.specs.Maps.{map_range}
use Rattle.lists.specs.Stages.{stages, row_at}
use Rattle.sine.specs.Sine.{sin_of}
use Rattle.motion.specs.Shapes.{broad_angle, middle_angle, detail_angle, broad, middle, detail, layered, drift}

pub wave-at : (angle : Float → Float) (start count : ℕ) (xs before : List Float) → count ≤ length before → {turned waves : List Float}
    → turned ≡ map_range (λ k held. angle (get_or xs (start + k) nan)) 0 count before → waves ≡ map_range (λ k a. sin_of a) 0 count turned
    → (k : ℕ) → k < count → get_or waves k nan ≡ sin_of (angle (get_or xs (start + k) nan))
wave-at angle start count xs before room a b k h =
    row_at nan (λ k. sin_of (angle (get_or xs (start + k) nan))) count before room
    (b ∙ ap (map_range (λ k a. sin_of a) 0 count) a ∙ stages (λ k a. sin_of a) (λ k held. angle (get_or xs (start + k) nan)) 0 count before) k h

pub joined : (x size phase b m d : Float) → b ≡ sin_of (broad_angle x size phase) → m ≡ sin_of (middle_angle x size phase) → d ≡ sin_of (detail_angle x size phase)
    → layered b m d ≡ drift x size phase
unfolding drift broad middle detail
joined x size phase b m d e f g =
    ap (λ (z : Float). layered z m d) e
    ∙ ap (λ (z : Float). layered (sin_of (broad_angle x size phase)) z d) f
    ∙ ap (layered (sin_of (broad_angle x size phase)) (sin_of (middle_angle x size phase))) g
