-- The laws of one level, for each note of the bank: a frame within its limits keeps every level in
-- 0..1 and moves none away from its target. Assumes nothing.
use mathlib.Core.Path.{◌≡◌, refl, sym, subst}
use mathlib.Core.Logic.{◌⊎◌, inl, inr}
use mathlib.Core.Bool.{Bool, true, false}
use mathlib.Core.List.{List}
use Prim.Native.Nat.{ℕ, ◌<◌}
use lib.Dec.{T}
use lib.ListN.{length, get_or}
use lib.Ieee.{Float, nan, le, lt}
use Rattle.lists.specs.Maps.{get_or-map_at, length-map_from}
use Rattle.float32.specs.Order.{magnitude}
use Rattle.float32.specs.Remainder.{zero}
use Rattle.float32.proofs.InUnit.{InUnit}
use Rattle.envelopes.specs.Envelope.{is_held, fade_alpha, SILENCE, next_level, advanced}
use Rattle.envelopes.proofs.Levels.{moved, level-in-range, released-never-rises, held-never-falls, held-in-silence}

-- every level is in 0..1
abbrev pub Levels : List Float → Type 0
Levels bank = (note : ℕ) → note < length bank → InUnit (get_or bank note nan)

-- A level's step, by what its note does. A released level does not rise. A held one does not fall,
-- but for one that was below 0.000001 and becomes +0.
abbrev pub Toward : Bool → Float → Float → Type 0
Toward false before after = T (le after before)
Toward true before after = T (le before after) ⊎ (T (lt before SILENCE) × (after ≡ zero))

toward-target : (alpha level : Float) → InUnit alpha → InUnit level → (held : Bool) → Toward held level (next_level held alpha level)
toward-target alpha level a l false = released-never-rises alpha level a l
toward-target alpha level a l true = go (lt (magnitude (moved true alpha level)) SILENCE) (held-never-falls alpha level a l) (held-in-silence alpha level a l)
  where
    go : (b : Bool) → (b ≡ false → T (le level (next_level true alpha level))) → (b ≡ true → T (lt level SILENCE) × (next_level true alpha level ≡ zero))
        → Toward true level (next_level true alpha level)
    go false up out = inl (up refl)
    go true up out = inr (out refl)

module _ (bank : List Float) (held : List ℕ) (elapsed fade : Float) where
  abbrev step : ℕ → Float → Float
  step note level = next_level (is_held held note) (fade_alpha elapsed fade) level

  pub advanced-length : length (advanced held elapsed fade bank) ≡ length bank
  advanced-length = length-map_from step 0 bank

  entry : (note : ℕ) → note < length bank → get_or (advanced held elapsed fade bank) note nan ≡ step note (get_or bank note nan)
  entry note h = get_or-map_at step bank note nan nan h

  module _ (a : InUnit (fade_alpha elapsed fade)) (l : Levels bank) where
    pub levels-stay : Levels (advanced held elapsed fade bank)
    levels-stay note h =
        let g : note < length bank = subst (λ (n : ℕ). note < n) advanced-length h in
        subst InUnit (sym (entry note g)) (level-in-range (fade_alpha elapsed fade) (get_or bank note nan) a (l note g) (is_held held note))

    pub none-moves-away : (note : ℕ) → note < length bank → Toward (is_held held note) (get_or bank note nan) (get_or (advanced held elapsed fade bank) note nan)
    none-moves-away note h =
        subst (Toward (is_held held note) (get_or bank note nan)) (sym (entry note h)) (toward-target (fade_alpha elapsed fade) (get_or bank note nan) a (l note h) (is_held held note))
