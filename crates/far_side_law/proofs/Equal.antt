-- Of equal curves, tables and settings, the masks of a side are equal, where 'equal' is as f32
-- compares: each mask is that of the near voices, A's is that on B's settings and table, and there
-- the bins rise from A's near voices to B's and back. Assumes nothing.
use mathlib.Core.Path.{◌≡◌, sym, ◌∙◌, subst}
use mathlib.Core.List.{List}
use Prim.Native.Nat.{ℕ, ◌+◌, ◌/◌, ◌<◌}
use native.Mathlib.Omega.{arith}
use lib.Dec.{T}
use lib.ListN.{length, get_or}
use lib.Ieee.{Float, nan, binary32, fits}
use Rattle.lists.specs.Maps.{tab_from}
use Rattle.lists.specs.Pairs.{All2, none, more, all2-at, all2-length}
use Rattle.lists.specs.Totals.{All, all-at}
use Rattle.float_laws.specs.Rise.{Rise}
use Rattle.scene.specs.declared.MaskVoice.{MaskVoice}
use Rattle.scene.specs.declared.MaskConfig.{MaskConfig}
use Rattle.scene.specs.Accepted.{no_voice}
use Rattle.scene.specs.Voices.{RealVoice}
use Rattle.scene.proofs.SettingsNumbers as numbers
use Rattle.scene.proofs.SettingsNumbers.{RealSettings}
use Rattle.masks.specs.Manual.{curve_point}
use Rattle.lobes.specs.Pan.{Side}
use Rattle.lobes.specs.Distance.{lent}
use Rattle.openness.proofs.RaisedVoices.{RaisedIn}
use Rattle.mask_builder.specs.Mask.{mask_at}
use Rattle.mask_builder.proofs.Rising.{mask-rises}
use Rattle.chord_law.specs.Calls.{Call, F32Call, Accepted, given, whole, mask_on}
use Rattle.chord_law.specs.SameVoices.{SameVoice}
use Rattle.chord_law.specs.Masks.{EqualMasks}
use Rattle.chord_law.proofs.Acceptance.{size-accepted, settings-accepted}
use Rattle.chord_law.proofs.Alike.{mask-on, matched-raised}
use Rattle.chord_law.proofs.SameVoices.{same-matched, same-turned}
use Rattle.chord_law.proofs.CurvePoints.{point-f32, point-rises}
use Rattle.chord_law.proofs.Law.{Risen, rise-tab, equal}
use Rattle.far_side_law.specs.Sides.{near}
use Rattle.far_side_law.specs.FarSide.{EqualScene}
use Rattle.far_side_law.proofs.NearVoices.{all-near-real, mask-near}

-- ---- two lists, each voice the same as the other's at its place
turned-voices :
    {xs ys : List MaskVoice} → All RealVoice xs → All RealVoice ys → All2 SameVoice xs ys
    → All2 SameVoice ys xs
turned-voices us vs none = none
turned-voices us vs (more {x} {y} s w) =
    more (same-turned x y us.0 vs.0 s) (turned-voices us.1 vs.1 w)

raised :
    {xs ys : List MaskVoice} → All RealVoice xs → All RealVoice ys → All2 SameVoice xs ys
    → (i : ℕ) → i < length xs → RaisedIn (get_or xs i no_voice) ys
raised {xs} {ys} us vs same i h =
    let x = get_or xs i no_voice in
    let y = get_or ys i no_voice in
    let k : i < length ys = omega (arith, all2-length SameVoice same) in
    let u = all-at RealVoice xs i no_voice us h in
    let v = all-at RealVoice ys i no_voice vs k in
    record {
      place = i;
      there = k;
      above = matched-raised x y u v (same-matched x y u v (all2-at SameVoice i no_voice same h));
    }

-- ---- two calls
module _ (side : Side) (a b : Call) (fa : F32Call a) (fb : F32Call b)
    (h : EqualScene side (whole a) (whole b)) where
  abbrev B : MaskConfig
  B = b.config

  abbrev xs : List MaskVoice
  xs = near side (given a)

  abbrev ys : List MaskVoice
  ys = near side (given b)

  us : All RealVoice xs
  us = all-near-real side a h.a-accepted fa

  vs : All RealVoice ys
  vs = all-near-real side b h.b-accepted fb

  -- a bin's gain by each, and by A's curve and near voices on B's settings and table
  abbrev by-A : ℕ → Float
  by-A = mask_at a.curve a.config (lent a.table) side (given a)

  abbrev by-B : ℕ → Float
  by-B = mask_at b.curve B (lent b.table) side (given b)

  abbrev near-A : ℕ → Float
  near-A = mask_at a.curve B (lent b.table) side xs

  abbrev near-B : ℕ → Float
  near-B = mask_at b.curve B (lent b.table) side ys

  is-near-A : (bin : ℕ) → by-A bin ≡ near-A bin
  is-near-A bin =
      mask-near side a h.a-accepted fa bin
      ∙ mask-on a b h.a-accepted h.b-accepted fa fb h.settings h.table side a.curve
      xs bin

  real : RealSettings B
  real =
      numbers.real-settings B (size-accepted b h.b-accepted)
      (settings-accepted b h.b-accepted) fb.settings-f32

  point :
      (call : Call) → Accepted (whole call) → F32Call call → (bin : ℕ)
      → T (fits binary32 (get_or call.curve (curve_point bin B.fft_size) nan))
  point call p f bin = point-f32 call p f bin B.fft_size

  up : (bin : ℕ) → Rise binary32 7 (near-A bin) (near-B bin)
  up bin =
      mask-rises B real b.table side xs ys us vs (raised us vs h.voices) a.curve b.curve
      bin
      (point-rises a.curve b.curve bin B.fft_size (point a h.a-accepted fa bin)
      (point b h.b-accepted fb bin) h.curve.0)

  down : (bin : ℕ) → Rise binary32 7 (near-B bin) (near-A bin)
  down bin =
      mask-rises B real b.table side ys xs vs us
      (raised vs us (turned-voices us vs h.voices)) b.curve a.curve bin
      (point-rises b.curve a.curve bin B.fft_size (point b h.b-accepted fb bin)
      (point a h.a-accepted fa bin) h.curve.1)

  pub masks-equal : EqualMasks (mask_on side a) (mask_on side b)
  masks-equal =
      let n = B.fft_size / 2 + 1 in
      let on-A : Risen (tab_from by-A 0 n) (tab_from by-B 0 n) =
      rise-tab by-A by-B (λ bin. rw (is-near-A bin, is-near-B bin) (up bin)) 0 n in
      let on-B : Risen (tab_from by-B 0 n) (tab_from by-A 0 n) =
      rise-tab by-B by-A (λ bin. rw (is-near-A bin, is-near-B bin) (down bin)) 0 n in
      subst (λ (m : ℕ). EqualMasks (tab_from by-A 0 (m / 2 + 1)) (mask_on side b))
      (sym h.settings.size) (equal on-A on-B)
    where
      is-near-B : (bin : ℕ) → by-B bin ≡ near-B bin
      is-near-B bin = mask-near side b h.b-accepted fb bin
