-- A mask of a side is that of the voices near it: those far from it open nothing there, so that
-- each leaves what a bin holds, to the bit. Assumes nothing.
use mathlib.Core.Path.{◌≡◌, refl, ap, ◌∙◌}
use mathlib.Core.Bool.{Bool, true, false, cond}
use mathlib.Core.List.{List, [], ◌∷◌}
use Prim.Native.Nat.{ℕ}
use lib.Dec.{T}
use lib.Ieee.{Float}
use Rattle.lists.specs.Folds.{fold}
use Rattle.lists.specs.Totals.{All}
use Rattle.float32.specs.Remainder.{zero}
use Rattle.scene.specs.declared.MaskVoice.{MaskVoice}
use Rattle.scene.specs.Voices.{RealVoice}
use Rattle.scene.proofs.SettingsNumbers as numbers
use Rattle.lobes.specs.declared.Grid.{Grid}
use Rattle.lobes.specs.Grid.{grid_of}
use Rattle.lobes.specs.Pan.{Side, channel_gain}
use Rattle.lobes.specs.Distance.{lent}
use Rattle.lobe_joins.proofs.Maxima.{Openness, nothing-open}
use Rattle.openness.specs.Openness.{voice_joined, openness}
use Rattle.openness.proofs.RaisedVoices.{Fair, voice-join}
use Rattle.openness.proofs.SilentVoices.{voice-kept}
use Rattle.mask_builder.specs.Mask.{openness_at, mask_at}
use Rattle.mask_builder.proofs.Rising.{fair-grid}
use Rattle.chord_law.specs.Calls.{Call, F32Call, Accepted, given, whole}
use Rattle.chord_law.proofs.Acceptance.{size-accepted, settings-accepted, all-real}
use Rattle.far_side_law.specs.Sides.{far_from, near}
use Rattle.far_side_law.proofs.FarVoices.{far-gain}

near-real :
    (side : Side) (voices : List MaskVoice) → All RealVoice voices
    → All RealVoice (near side voices)
unfolding near
near-real side [] u = tt
near-real side (voice ∷ voices) u =
    go (far_from side voice) (near side voices) u.0 (near-real side voices u.1)
  where
    go :
        (b : Bool) (rest : List MaskVoice) → RealVoice voice → All RealVoice rest
        → All RealVoice (cond b rest (voice ∷ rest))
    go true rest p q = q
    go false rest p q = (p, q)

-- ---- an openness
module _ (grid : Grid) (fair : Fair grid) (table : List Float) (side : Side) (bin : ℕ) where
  abbrev step : Float → MaskVoice → Float
  step = voice_joined grid (lent table) (channel_gain side) bin

  run-near :
      (s : Float) (voices : List MaskVoice) → All RealVoice voices → Openness s
      → fold step s voices ≡ fold step s (near side voices)
  unfolding fold near
  run-near s [] u o = refl
  run-near s (voice ∷ voices) u o =
      go (far_from side voice) far-kept (run-near s voices u.1 o)
      (run-near (step s voice) voices u.1
      ((voice-join grid fair table side bin).keeps s voice u.0 o))
    where
      far-kept : T (far_from side voice) → step s voice ≡ s
      far-kept h =
          voice-kept grid fair table side bin voice u.0 (far-gain side voice u.0 h) s o

      go :
          (b : Bool) → (T b → step s voice ≡ s)
          → fold step s voices ≡ fold step s (near side voices)
          → fold step (step s voice) voices ≡ fold step (step s voice) (near side voices)
          → fold step (step s voice) voices
          ≡ fold step s (cond b (near side voices) (voice ∷ near side voices))
      go true kept without with = ap (λ (t : Float). fold step t voices) (kept tt) ∙ without
      go false kept without with = with

  openness-near :
      (voices : List MaskVoice) → All RealVoice voices
      → openness grid (lent table) side voices bin
      ≡ openness grid (lent table) side (near side voices) bin
  unfolding openness
  openness-near voices u = run-near zero voices u nothing-open

-- ---- a bin of an accepted call
module _ (side : Side) (call : Call) (p : Accepted (whole call)) (f : F32Call call) where
  pub all-near-real : All RealVoice (near side (given call))
  all-near-real = near-real side (given call) (all-real call p f)

  pub mask-near :
      (bin : ℕ)
      → mask_at call.curve call.config (lent call.table) side (given call) bin
      ≡ mask_at call.curve call.config (lent call.table) side (near side (given call)) bin
  unfolding mask_at openness_at
  mask-near bin =
      let s = size-accepted call p in
      let real = numbers.real-settings call.config s (settings-accepted call p)
      f.settings-f32 in
      let grid = grid_of call.config in
      let fair = fair-grid call.config real in
      rw (openness-near grid fair call.table side bin (given call) (all-real call p f)) refl
