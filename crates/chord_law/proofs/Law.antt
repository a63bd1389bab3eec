-- The chord law: where two stereo calls are accepted, on the same settings and table entries, and
-- each voice of A is matched by one of B and A's curve is nowhere above B's, then on every bin,
-- left and right, A's mask is not above B's. Where B is matched in A too and the curves are equal,
-- the masks are equal: the first part, both ways round. A's mask is that on B's settings and table
-- (`mask-on`); there each bin rises with the voices and with the curve (`mask-rises`). Assumes
-- nothing.
use mathlib.Core.Path.{◌≡◌, sym, subst}
use mathlib.Core.List.{List}
use Prim.Native.Nat.{ℕ, zero, suc, ◌/◌, ◌+◌, ◌<◌}
use lib.ListN.{length, get_or}
use lib.Ieee.{Float, binary32}
use Rattle.lists.specs.Maps.{tab_from}
use Rattle.lists.specs.Pairs.{All2, none, more}
use Rattle.float_laws.specs.Units.{real-number}
use Rattle.float_laws.specs.Order.{le-antisymm-f}
use Rattle.float_laws.specs.Rise.{Rise}
use Rattle.scene.specs.declared.MaskConfig.{MaskConfig}
use Rattle.scene.specs.Accepted.{no_voice}
use Rattle.lobes.specs.Pan.{Side}
use Rattle.lobes.specs.Distance.{lent}
use Rattle.openness.proofs.RaisedVoices.{RaisedIn}
use Rattle.mask_builder.specs.Mask.{mask_at}
use Rattle.mask_builder.proofs.Rising.{mask-rises}
use Rattle.chord_law.specs.Calls.{Call, F32Call, given, whole, mask_on}
use Rattle.chord_law.specs.Voices.{MatchedIn}
use Rattle.chord_law.specs.Curves.{EqualCurves}
use Rattle.chord_law.specs.Masks.{NotAbove, EqualMasks, MasksNotAbove, MasksEqual}
use Rattle.chord_law.specs.Premises.{Comparable, Beneath}
use Rattle.chord_law.specs.Law.{ChordLaw}
use Rattle.chord_law.proofs.Acceptance.{size-accepted, settings-accepted}
use Rattle.chord_law.proofs.Acceptance.{given-real, all-real}
use Rattle.scene.proofs.SettingsNumbers as numbers
use Rattle.chord_law.proofs.Alike.{mask-on, matched-raised}
use Rattle.chord_law.proofs.CurvePoints.{point-f32, point-rises}
use Rattle.chord_law.proofs.Turned.{turned}

abbrev pub Risen : List Float → List Float → Type 0
Risen = All2 (λ x y. Rise binary32 7 x y)

pub rise-tab :
    (f g : ℕ → Float) → ((bin : ℕ) → Rise binary32 7 (f bin) (g bin)) → (j n : ℕ)
    → Risen (tab_from f j n) (tab_from g j n)
unfolding tab_from
rise-tab f g h j zero = none
rise-tab f g h j (suc n) = more (h j) (rise-tab f g h (suc j) n)

module _ (a b : Call) (fa : F32Call a) (fb : F32Call b)
    (c : Comparable (whole a) (whole b)) (u : Beneath (whole a) (whole b)) where
  abbrev A : MaskConfig
  A = a.config

  abbrev B : MaskConfig
  B = b.config

  raised : (i : ℕ) → i < length (given a) → RaisedIn (get_or (given a) i no_voice) (given b)
  raised i h =
      let m = u.matched i h in
      record {
        place = m.place;
        there = m.there;
        above =
            matched-raised (get_or (given a) i no_voice) (get_or (given b) m.place no_voice)
            (given-real a c.a-accepted fa i h)
            (given-real b c.b-accepted fb m.place m.there) m.matches;
      }

  module _ (side : Side) where
    -- a bin's gain by A, by B, and by A's curve and voices on B's settings and table
    abbrev by-A : ℕ → Float
    by-A = mask_at a.curve A (lent a.table) side (given a)

    abbrev by-B : ℕ → Float
    by-B = mask_at b.curve B (lent b.table) side (given b)

    abbrev on-B : ℕ → Float
    on-B = mask_at a.curve B (lent b.table) side (given a)

    rises-to-B : (bin : ℕ) → Rise binary32 7 (on-B bin) (by-B bin)
    rises-to-B bin =
        let s = size-accepted b c.b-accepted in
        let t = settings-accepted b c.b-accepted in
        let real = numbers.real-settings B s t fb.settings-f32 in
        mask-rises B real b.table side (given a) (given b) (all-real a c.a-accepted fa)
        (all-real b c.b-accepted fb) raised a.curve b.curve bin
        (point-rises a.curve b.curve bin B.fft_size
        (point-f32 a c.a-accepted fa bin B.fft_size)
        (point-f32 b c.b-accepted fb bin B.fft_size) u.curve)

    same-on-B : (bin : ℕ) → by-A bin ≡ on-B bin
    same-on-B bin =
        mask-on a b c.a-accepted c.b-accepted fa fb c.settings c.table side a.curve
        (given a) bin

    pub masks-rise : Risen (mask_on side a) (mask_on side b)
    masks-rise =
        let rises : (bin : ℕ) → Rise binary32 7 (by-A bin) (by-B bin) =
        λ bin. subst (λ (x : Float). Rise binary32 7 x (by-B bin)) (sym (same-on-B bin))
        (rises-to-B bin) in
        subst (λ (n : ℕ). Risen (mask_on side a) (tab_from by-B 0 (n / 2 + 1))) c.settings.size
        (rise-tab by-A by-B rises 0 (A.fft_size / 2 + 1))

not-above : {xs ys : List Float} → Risen xs ys → NotAbove xs ys
not-above none = none
not-above (more r w) = more r.up (not-above w)

pub equal : {xs ys : List Float} → Risen xs ys → Risen ys xs → EqualMasks xs ys
equal none none = none
equal (more {x} {y} r w) (more r' w') =
    let p = real-number binary32 x r.from.is_real in
    let q = real-number binary32 y r.to.is_real in
    more (le-antisymm-f binary32 x y p q r.up r'.up) (equal w w')

pub chord-law : ChordLaw
chord-law a b fa fb c u =
    ((up _, up _), λ matched curves. (same matched curves _, same matched curves _))
  where
    up : (side : Side) → NotAbove (mask_on side a) (mask_on side b)
    up side = not-above (masks-rise a b fa fb c u side)

    same :
        MatchedIn (given b) (given a) → EqualCurves a.curve b.curve
        → (side : Side) → EqualMasks (mask_on side a) (mask_on side b)
    same matched curves side =
        let back : Beneath (whole b) (whole a) = record { matched = matched; curve = curves.1 } in
        equal (masks-rise a b fa fb c u side)
        (masks-rise b a fb fa (turned a b fa fb c) back side)

-- ---- its two parts, each with the premises that it needs
module _ (a b : Call) (fa : F32Call a) (fb : F32Call b)
    (c : Comparable (whole a) (whole b)) (u : Beneath (whole a) (whole b)) where
  pub masks-not-above : MasksNotAbove (whole a) (whole b)
  masks-not-above = (chord-law a b fa fb c u).0

  pub masks-equal : Beneath (whole b) (whole a) → MasksEqual (whole a) (whole b)
  masks-equal v = (chord-law a b fa fb c u).1 v.matched (u.curve, v.curve)
