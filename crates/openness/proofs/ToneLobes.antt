-- The lobes of a tone's partials: joining them one after the other is joining the tone, and those
-- of an accepted voice are sound. Assumes nothing.
use mathlib.Core.Path.{◌≡◌, refl, sym, ap, ◌∙◌, subst}
use mathlib.Core.List.{List, [], ◌∷◌, map}
use Prim.Native.Nat.{ℕ, ◌+◌, ◌≤◌}
use native.Mathlib.Omega.{arith}
use lib.Dec.{T}
use lib.ListN.{length, take}
use lib.Ieee.{Float, binary32, lt}
use Rattle.lists.specs.Maps.{map_at}
use Rattle.lists.specs.Runs.{map_same}
use Rattle.lists.specs.Folds.{fold}
use Rattle.float_laws.specs.Units.{real}
use Rattle.float_laws.specs.Round.{plus_zero}
use Rattle.scene.specs.declared.MaskVoice.{MaskVoice}
use Rattle.scene.specs.Voices.{RealVoice}
use Rattle.lobes.specs.declared.Grid.{Grid}
use Rattle.lobes.specs.declared.Tone.{Tone}
use Rattle.lobes.specs.declared.Lobe.{Lobe}
use Rattle.lobes.specs.Tone.{tone_of}
use Rattle.lobes.specs.Distance.{Logs}
use Rattle.lobes.specs.Lobe.{lobe_of}
use Rattle.lobe_bounds.proofs.Bounded.{lobe-measured}
use Rattle.lobe_joins.specs.Joined.{lobe_joined, lobes_joined}
use Rattle.block_rows.specs.Most.{SoundLobe, SoundLobes}
use Rattle.openness.specs.Openness.{tone_joined}
use Rattle.tone_lobes.specs.ToneLobes.{partials_of, lobes_of}
use Rattle.tone_lobes.proofs.Partials.{first-bin, last-bin, center-log2}
use Rattle.tone_lobes.proofs.Listed.{partials-few, lobe-at}

-- a run over a map
fold-map : {A B S : Type 0} (step : S → B → S) (f : A → B) (s : S) (xs : List A) → fold step s (map f xs) ≡ fold (λ s x. step s (f x)) s xs
unfolding fold
fold-map step f s [] = refl
fold-map step f s (x ∷ xs) = fold-map step f (step s (f x)) xs

module _ (grid : Grid) (logs : Logs) (tone : Tone) where
  -- joining the lobes is joining the tone
  pub lobes-are-tone : (gain : Float) (bin : ℕ) (held : Float) → lobes_joined grid logs gain (lobes_of grid logs tone) bin held ≡ tone_joined grid logs gain tone bin held
  unfolding lobes_joined tone_joined
  lobes-are-tone gain bin held = fold-map (λ held lobe. lobe_joined grid logs gain bin held lobe) (lobe_of grid logs tone) held (partials_of grid tone)

  pub tone-raised : (gain : Float) (n : ℕ) (lobes : List Lobe) → take n lobes ≡ lobes_of grid logs tone → (xs : List Float) {ys : List Float} → ys ≡ map_at (lobes_joined grid logs gain (take n lobes)) xs
      → ys ≡ map_at (tone_joined grid logs gain tone) xs
  tone-raised gain n lobes t xs w =
      w ∙ ap (λ (l : List Lobe). map_at (lobes_joined grid logs gain l) xs) t
      ∙ map_same (lobes_joined grid logs gain (lobes_of grid logs tone)) (tone_joined grid logs gain tone) xs (λ bin held p. lobes-are-tone gain bin held)

-- the lobes of an accepted voice
pub sound-lobes : (grid : Grid) (logs : Logs) (voice : MaskVoice) → T (real binary32 grid.width) → T (lt plus_zero grid.width) → T (real binary32 grid.rolloff) → grid.partials ≤ 24 → RealVoice voice
    → (lobes : List Lobe) (n : ℕ) → n ≡ length (partials_of grid (tone_of grid voice)) → take n lobes ≡ lobes_of grid logs (tone_of grid voice) → SoundLobes grid lobes n
sound-lobes grid logs voice w a r few u lobes n e t p h =
    let tone = tone_of grid voice in
    subst (SoundLobe grid) (sym (lobe-at grid logs tone lobes n e t p h))
    record {
      log-of-center = center-log2 grid logs tone (p + 1);
      first = first-bin grid logs tone (p + 1);
      last = last-bin grid logs tone (p + 1);
      measured = lobe-measured grid logs voice (p + 1) w a r u (omega arith) (omega (arith, partials-few grid tone));
    }
