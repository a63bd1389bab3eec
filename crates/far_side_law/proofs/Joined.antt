-- The openness of two lists of voices joined is the greater of the two, to the bit. A bin's gain
-- never falls as its openness rises, so with one curve it is the greater of the two gains. Assumes
-- nothing.
use mathlib.Core.Path.{◌≡◌, refl, sym, ap, ◌∙◌, subst}
use mathlib.Core.Bool.{Bool, true, false, not, cond}
use mathlib.Core.List.{List, ◌++◌}
use Prim.Native.Nat.{ℕ, zero, suc, ◌+◌, ◌/◌, ◌≤◌}
use lib.Dec.{T}
use lib.ListN.{length-append}
use lib.Seq.{take-length}
use lib.Ieee.{Float, binary32, le, lt, eq}
use Rattle.lists.specs.Maps.{tab_from}
use Rattle.lists.specs.Pairs.{none, more}
use Rattle.lists.specs.Totals.{All, all_append}
use Rattle.float_laws.specs.Units.{number, real-number}
use Rattle.float_laws.specs.Order.{not-lt-f, le-antisymm-f, larger, larger-number}
use Rattle.float_laws.specs.Order.{larger-left, larger-right, larger-least}
use Rattle.float_laws.specs.Rise.{Rise, rise-refl}
use Rattle.float32.specs.Order.{maximum}
use Rattle.float32.specs.Remainder as remainder
use Rattle.float32.proofs.OrderAgrees.{maximum-larger}
use Rattle.limits.specs.Lengths.{most_voices}
use Rattle.scene.specs.declared.MaskVoice.{MaskVoice}
use Rattle.scene.specs.declared.MaskConfig.{MaskConfig}
use Rattle.scene.specs.Accepted.{voice_accepted}
use Rattle.scene.specs.Voices.{RealVoice}
use Rattle.scene.proofs.SettingsNumbers as numbers
use Rattle.scene.proofs.SettingsNumbers.{RealSettings}
use Rattle.lobes.specs.Grid.{grid_of}
use Rattle.lobes.specs.Pan.{Side}
use Rattle.lobes.specs.Distance.{lent}
use Rattle.lobe_joins.proofs.Maxima.{Openness, nothing-open, is_number, first_under, second-under}
use Rattle.lobe_joins.proofs.Maxima.{keeps}
use Rattle.lobe_joins.proofs.Highest.{keeps-higher, takes-higher}
use Rattle.lobe_joins.proofs.Grouped.{with-zero}
use Rattle.openness.proofs.RaisedVoices.{openness-upto}
use Rattle.openness.proofs.JoinedVoices.{openness-joined}
use Rattle.bin_gains.specs.Gains.{gain_at}
use Rattle.bin_gains.proofs.Rising.{manual-upto}
use Rattle.mask_builder.specs.Mask.{openness_at, mask_at, mask_of}
use Rattle.mask_builder.proofs.Rising.{fair-grid, gain-rises}
use Rattle.chord_law.specs.Calls.{Call, F32Call, Accepted, given, whole, mask_on}
use Rattle.chord_law.specs.Masks.{EqualMasks}
use Rattle.chord_law.proofs.Acceptance.{size-accepted, settings-accepted, all-real}
use Rattle.chord_law.proofs.AcceptedVoices.{given-accepted, accepted-on}
use Rattle.chord_law.proofs.CurvePoints.{point-f32}
use Rattle.far_side_law.specs.Joined.{openness_on, Joinable, joined, greater_of, JoinedLaw}

-- ---- an openness, with the note layer on or off
module _ (config : MaskConfig) (c : RealSettings config) (table : List Float) (side : Side)
    (bin : ℕ) where
  abbrev held : List MaskVoice → Float
  held voices = openness_at config (lent table) side voices bin

  held-open : (voices : List MaskVoice) → All RealVoice voices → Openness (held voices)
  unfolding openness_at
  held-open voices u =
      go config.note_layer_enabled
      (openness-upto (grid_of config) (fair-grid config c) table side bin voices u)
    where
      go : (b : Bool) {x : Float} → Openness x → Openness (cond b x remainder.zero)
      go true o = o
      go false o = nothing-open

  held-joined :
      (xs ys : List MaskVoice) → All RealVoice xs → All RealVoice ys
      → held (xs ++ ys) ≡ maximum (held xs) (held ys)
  unfolding openness_at
  held-joined xs ys u v =
      go config.note_layer_enabled _ _
      (openness-joined (grid_of config) (fair-grid config c) table side bin xs ys u v)
    where
      go :
          (b : Bool) {x : Float} (y z : Float) → x ≡ maximum y z
          → cond b x remainder.zero
          ≡ maximum (cond b y remainder.zero) (cond b z remainder.zero)
      go true y z e = e
      go false y z e = sym (with-zero nothing-open)

-- ---- a gain that never falls as the openness rises: that of the greater is the greater
module _ (gain : Float → Float)
    (rises : (o p : Float) → Rise binary32 3 o p → Rise binary32 7 (gain o) (gain p))
    {x y : Float} (u : Openness x) (v : Openness y) where
  abbrev most : Float
  most = maximum (gain x) (gain y)

  from-x : Rise binary32 7 (gain x) (gain (maximum x y))
  from-x = rises x (maximum x y) (record { from = u; to = keeps u v; up = first_under u v })

  from-y : Rise binary32 7 (gain y) (gain (maximum x y))
  from-y = rises y (maximum x y) (record { from = v; to = keeps u v; up = second-under u v })

  x-number : T (number binary32 (gain x))
  x-number = real-number binary32 (gain x) from-x.from.is_real

  y-number : T (number binary32 (gain y))
  y-number = real-number binary32 (gain y) from-y.from.is_real

  greater-number : T (number binary32 (gain (maximum x y)))
  greater-number = real-number binary32 (gain (maximum x y)) from-x.to.is_real

  is-larger : most ≡ larger (gain x) (gain y)
  is-larger = maximum-larger binary32 (gain x) (gain y) x-number

  most-number : T (number binary32 most)
  most-number =
      rw is-larger (larger-number binary32 (gain x) (gain y) x-number y-number)

  -- the greater is one of the two
  gain-under : T (le (gain (maximum x y)) most)
  gain-under = go (lt x y) refl
    where
      go : (b : Bool) → lt x y ≡ b → T (le (gain (maximum x y)) most)
      go true e =
          rw (takes-higher u (subst T (sym e) tt), is-larger)
          (larger-right binary32 (gain x) (gain y) x-number y-number)
      go false e =
          let n = subst (λ (b : Bool). T (not b)) (sym e) tt in
          let l = not-lt-f binary32 x y (is_number u) (is_number v) n in
          rw (keeps-higher u v l, is-larger)
          (larger-left binary32 (gain x) (gain y) x-number y-number)

  gain-of-greater : T (eq (gain (maximum x y)) most)
  gain-of-greater =
      le-antisymm-f binary32 (gain (maximum x y)) most greater-number most-number gain-under
      (rw is-larger
      (larger-least binary32 (gain x) (gain y) x-number y-number (gain (maximum x y))
      greater-number from-x.up from-y.up))

greater-tab :
    (h f g : ℕ → Float) → ((bin : ℕ) → T (eq (h bin) (maximum (f bin) (g bin)))) → (j n : ℕ)
    → EqualMasks (tab_from h j n) (greater_of (tab_from f j n) (tab_from g j n))
unfolding tab_from
greater-tab h f g e j zero = none
greater-tab h f g e j (suc n) = more (e j) (greater-tab h f g e (suc j) n)

-- ---- two calls
module _ (a b : Call) (fa : F32Call a) (fb : F32Call b) (h : Joinable a b) where
  abbrev A : MaskConfig
  A = a.config

  abbrev both : List MaskVoice
  both = given a ++ given b

  joined-accepted : Accepted (whole (joined a b))
  joined-accepted =
      accepted-on a h.a-accepted both
      (subst (λ (n : ℕ). n ≤ most_voices) (sym (length-append (given a) (given b))) h.together)
      (all_append (λ v. T (voice_accepted v)) (given a) (given b)
      (given-accepted a h.a-accepted) (given-accepted b h.b-accepted))

  real : RealSettings A
  real =
      numbers.real-settings A (size-accepted a h.a-accepted)
      (settings-accepted a h.a-accepted) fa.settings-f32

  us : All RealVoice (given a)
  us = all-real a h.a-accepted fa

  vs : All RealVoice (given b)
  vs = all-real b h.b-accepted fb

  -- the openness of a list on A's settings and table
  abbrev open-A : Side → List MaskVoice → ℕ → Float
  open-A side voices bin = openness_at A (lent a.table) side voices bin

  on-A : (side : Side) (bin : ℕ) → open-A side (given b) bin ≡ openness_on side b bin
  on-A side bin = one h.settings h.table
    where
      one :
          {config config' : MaskConfig} {table table' : List Float} → config ≡ config'
          → table ≡ table'
          → openness_at config (lent table) side (given b) bin
          ≡ openness_at config' (lent table') side (given b) bin
      one p q = rw (p, q) refl

  all-count : (side : Side) (bin : ℕ) → openness_on side (joined a b) bin ≡ open-A side both bin
  all-count side bin =
      ap (λ (voices : List MaskVoice). open-A side voices bin) (take-length both)

  on_both :
      (side : Side) (bin : ℕ)
      → openness_on side (joined a b) bin
      ≡ maximum (openness_on side a bin) (open-A side (given b) bin)
  on_both side bin =
      all-count side bin ∙ held-joined A real a.table side bin (given a) (given b) us vs

  openness-greater :
      (side : Side) (bin : ℕ)
      → openness_on side (joined a b) bin ≡ maximum (openness_on side a bin) (openness_on side b bin)
  openness-greater side bin =
      on_both side bin ∙ ap (maximum (openness_on side a bin)) (on-A side bin)

  -- ---- the masks, with one curve
  abbrev gain : ℕ → Float → Float
  gain bin = gain_at a.curve A bin

  gain-greater :
      (side : Side) (bin : ℕ)
      → T (eq (gain bin (openness_on side (joined a b) bin))
      (maximum (gain bin (openness_on side a bin)) (gain bin (open-A side (given b) bin))))
  gain-greater side bin =
      let point =
      manual-upto a.curve bin A.fft_size
      (point-f32 a h.a-accepted fa bin A.fft_size) in
      rw (on_both side bin)
      (gain-of-greater (gain bin)
      (λ o p r. gain-rises A real a.curve a.curve bin (rise-refl binary32 point) r)
      (held-open A real a.table side bin (given a) us)
      (held-open A real a.table side bin (given b) vs))

  masks-on-A :
      (side : Side)
      → EqualMasks (mask_on side (joined a b))
      (greater_of (mask_on side a)
      (mask_of a.curve A (lent a.table) side (given b)))
  unfolding mask_at
  masks-on-A side = greater-tab _ _ _ (gain-greater side) 0 (A.fft_size / 2 + 1)

  masks-greater :
      a.curve ≡ b.curve → (side : Side)
      → EqualMasks (mask_on side (joined a b)) (greater_of (mask_on side a) (mask_on side b))
  masks-greater curve side =
      subst (λ (mask : List Float). EqualMasks (mask_on side (joined a b))
      (greater_of (mask_on side a) mask)) (one curve h.settings h.table) (masks-on-A side)
    where
      one :
          {curve curve' : List Float} {config config' : MaskConfig} {table table' : List Float}
          → curve ≡ curve' → config ≡ config' → table ≡ table'
          → mask_of curve config (lent table) side (given b)
          ≡ mask_of curve' config' (lent table') side (given b)
      one p q r = rw (p, q, r) refl

pub joined-law : JoinedLaw
joined-law a b fa fb h =
    record {
      accepted = joined-accepted a b fa fb h;
      openness = openness-greater a b fa fb h;
      masks = masks-greater a b fa fb h;
    }
