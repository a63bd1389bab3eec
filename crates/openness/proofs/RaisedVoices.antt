-- The openness of a bin under a list of voices: it is an openness, every lobe is at most it, and it
-- is at most every openness that no lobe is above. So it does not depend on the order of the
-- voices, nor falls where each voice has one raised above it. Assumes nothing.
use mathlib.Core.Path.{◌≡◌, refl, sym, subst, subst₂}
use mathlib.Core.Bool.{Bool, true, false, not, cond, ◌&&◌}
use mathlib.Core.List.{List}
use Prim.Native.Nat.{ℕ, ◌+◌, ◌≤◌, ◌<◌}
use native.Mathlib.Omega.{arith}
use lib.Dec.{T, T_not, not_T, leb}
use lib.ListN.{length, get_or}
use lib.Ieee.{Float, binary32, fits, le, mul, of_bits}
use Rattle.lists.specs.Folds.{fold, range}
use Rattle.lists.specs.Totals.{All, all-at}
use Rattle.lists.specs.Entries.{all-range, all-until, all-weaken, all_both, all-places}
use Rattle.float_laws.specs.Units.{number, real, real-number}
use Rattle.float_laws.specs.Order.{le-trans-f, le-refl-f}
use Rattle.float_laws.specs.Rise.{Rise, rise-refl}
use Rattle.float32.specs.Remainder.{zero}
use Rattle.scene.specs.declared.MaskVoice.{MaskVoice}
use Rattle.scene.specs.Accepted.{no_voice}
use Rattle.scene.specs.Voices.{RealVoice}
use Rattle.lobes.specs.declared.Grid.{Grid}
use Rattle.lobes.specs.declared.Lobe.{Lobe}
use Rattle.lobes.specs.Pan.{Side, channel_gain}
use Rattle.lobes.specs.Tone.{tone_of}
use Rattle.lobes.specs.Distance.{lent}
use Rattle.lobes.specs.Lobe.{lobe_of, opening}
use Rattle.lobes.proofs.Raised.{Raised, same-bins, opened-rises}
use Rattle.lobe_joins.specs.Joined.{lobe_joined}
use Rattle.lobe_joins.proofs.Maxima.{Openness, nothing-open, zero-least, Join, le_join, FitWhere, BelowWhere, where-join, AllBelow, fold-join}
use Rattle.tone_lobes.specs.ToneLobes.{partials_of}
use Rattle.openness.specs.Openness.{skipped_level, tone_joined, voice_joined, openness}

pub raised-self : (a : MaskVoice) → RealVoice a → Raised a a
raised-self a u =
    record {
      pitch = refl;
      rolloff = λ r. refl;
      balance = λ side. refl;
      level = rise-refl binary32 u.level-unit;
      volume = le-refl-f binary32 a.volume_gain (real-number binary32 a.volume_gain u.volume-real);
      pressure = le-refl-f binary32 a.pressure (real-number binary32 a.pressure u.pressure-real);
      expression = le-refl-f binary32 a.expression_gain (real-number binary32 a.expression_gain u.expression-real);
    }

-- a voice of the list, by its place, that is raised above a
pub record RaisedIn (a : MaskVoice) (bs : List MaskVoice) : Type 0 where
  pub place : ℕ
  pub there : place < length bs
  pub above : Raised a (get_or bs place no_voice)

-- the settings' part, as far as the lobes ask for it
pub record Fair (grid : Grid) : Type 0 where
  pub rolloff : T (real binary32 grid.rolloff)
  pub few : grid.partials ≤ 24

skipped-number : T (number binary32 skipped_level)
unfolding of_bits fits
skipped-number = tt

module _ (grid : Grid) (fair : Fair grid) (table : List Float) (side : Side) (bin : ℕ) where
  abbrev pub lobe : MaskVoice → ℕ → Lobe
  lobe voice partial = lobe_of grid (lent table) (tone_of grid voice) partial

  abbrev pub there : MaskVoice → ℕ → Bool
  there voice partial = leb (lobe voice partial).first_bin bin && leb bin (lobe voice partial).last_bin

  abbrev pub opens : MaskVoice → ℕ → Float
  opens voice partial = mul binary32 (opening grid (lent table) (lobe voice partial) bin) (channel_gain side voice)

  abbrev pub joined : MaskVoice → Float → ℕ → Float
  joined voice held partial = lobe_joined grid (lent table) (channel_gain side voice) bin held (lobe voice partial)

  pub partial-join : (voice : MaskVoice) → Join (FitWhere (there voice) (opens voice)) (BelowWhere (there voice) (opens voice)) (joined voice)
  unfolding lobe_joined
  partial-join voice = where-join (there voice) (opens voice)

  abbrev pub partials : MaskVoice → List ℕ
  partials voice = partials_of grid (tone_of grid voice)

  abbrev Few : ℕ → Type 0
  Few partial = (1 ≤ partial) × (partial ≤ 24)

  numbered : (voice : MaskVoice) → All Few (partials voice)
  numbered voice =
      all-until Few _ (range 1 grid.partials) (all-weaken (λ p h. (h.0, below p h.1)) (range 1 grid.partials) (all-range 1 grid.partials))
    where
      below : (p : ℕ) → p < 1 + grid.partials → p ≤ 24
      below p h = omega (arith, fair.few)

  pub open-partials :
      (voice : MaskVoice) → RealVoice voice
      → All (FitWhere (there voice) (opens voice)) (partials voice)
  open-partials voice u =
      all-weaken (λ p h t. (opened-rises grid table fair.rolloff side voice voice u u (raised-self voice u) p h.0 h.1 bin).to) (partials voice) (numbered voice)

  -- ---- a voice
  abbrev pub VoiceBelow : MaskVoice → Float → Type 0
  VoiceBelow voice z = T (not (le voice.level skipped_level)) → AllBelow (partial-join voice) (partials voice) z

  abbrev run : MaskVoice → Float → Float
  run voice held = fold (joined voice) held (partials voice)

  pub voice-join : Join RealVoice VoiceBelow (voice_joined grid (lent table) (channel_gain side) bin)
  unfolding voice_joined tone_joined
  voice-join =
      record {
        keeps = λ s x u o. keeps (le x.level skipped_level) s x u o;
        grows = λ s x u o. grows (le x.level skipped_level) s x u o;
        reaches = λ s x u o. reaches (le x.level skipped_level) s x u o;
        least = λ s x z u o w h b. least (le x.level skipped_level) s x z u o w h b;
        higher = λ x z z' u w w' h b t. (fold-join (partial-join x)).higher (partials x) z z' (open-partials x u) w w' h (b t);
      }
    where
      keeps : (c : Bool) (s : Float) (x : MaskVoice) → RealVoice x → Openness s → Openness (cond c s (run x s))
      keeps true s x u o = o
      keeps false s x u o = (fold-join (partial-join x)).keeps s (partials x) (open-partials x u) o

      grows : (c : Bool) (s : Float) (x : MaskVoice) → RealVoice x → Openness s → T (le s (cond c s (run x s)))
      grows true s x u o = le-refl-f binary32 s (real-number binary32 s o.is_real)
      grows false s x u o = (fold-join (partial-join x)).grows s (partials x) (open-partials x u) o

      reaches : (c : Bool) (s : Float) (x : MaskVoice) → RealVoice x → Openness s → T (not c) → AllBelow (partial-join x) (partials x) (cond c s (run x s))
      reaches true s x u o h = absurd h
      reaches false s x u o h = (fold-join (partial-join x)).reaches s (partials x) (open-partials x u) o

      least : (c : Bool) (s : Float) (x : MaskVoice) (z : Float) → RealVoice x → Openness s → Openness z → T (le s z) → (T (not c) → AllBelow (partial-join x) (partials x) z) → T (le (cond c s (run x s)) z)
      least true s x z u o w h b = h
      least false s x z u o w h b = (fold-join (partial-join x)).least s (partials x) z (open-partials x u) o w h (b tt)

  -- ---- the voices of a list
  abbrev pub held : List MaskVoice → Float
  held voices = openness grid (lent table) side voices bin

  pub openness-upto : (voices : List MaskVoice) → All RealVoice voices → Openness (held voices)
  unfolding openness
  openness-upto voices u = (fold-join voice-join).keeps zero voices u nothing-open

  pub voices-below : (voices : List MaskVoice) → All RealVoice voices → AllBelow voice-join voices (held voices)
  unfolding openness
  voices-below voices u = (fold-join voice-join).reaches zero voices u nothing-open

  pub openness-least : (voices : List MaskVoice) (z : Float) → All RealVoice voices → Openness z → AllBelow voice-join voices z → T (le (held voices) z)
  unfolding openness
  openness-least voices z u w b = (fold-join voice-join).least zero voices z u nothing-open w (zero-least w) b

  -- ---- a voice and one raised above it
  module _ (a b : MaskVoice) (u : RealVoice a) (v : RealVoice b) (h : Raised a b) where
    same-partials : partials a ≡ partials b
    unfolding tone_of
    same-partials = rw h.pitch refl

    not-skipped : T (not (le a.level skipped_level)) → T (not (le b.level skipped_level))
    not-skipped n =
        not_T (le b.level skipped_level)
        (λ s. T_not (le a.level skipped_level) n
        (le-trans-f binary32 a.level b.level skipped_level (real-number binary32 a.level u.level-unit.is_real) (real-number binary32 b.level v.level-unit.is_real) skipped-number h.level.up s))

    lower : (z : Float) → Openness z → (partial : ℕ) → Few partial → BelowWhere (there b) (opens b) partial z → BelowWhere (there a) (opens a) partial z
    lower z w p f below t =
        let k = same-bins grid table fair.rolloff side a b u v h p f.0 f.1 in
        let r = opened-rises grid table fair.rolloff side a b u v h p f.0 f.1 bin in
        le_join r.from r.to w r.up (below (subst₂ (λ (x y : ℕ). T (leb x bin && leb bin y)) k.0 k.1 t))

    pub below_raised : (z : Float) → Openness z → VoiceBelow b z → VoiceBelow a z
    below_raised z w below n =
        subst (λ (ps : List ℕ). AllBelow (partial-join a) ps z) (sym same-partials) (all_both (lower z w) (partials b) (numbered b) (below (not-skipped n)))

  -- ---- two lists, where each voice of the first has one of the second raised above it
  pub openness-rises : (xs ys : List MaskVoice) → All RealVoice xs → All RealVoice ys → ((i : ℕ) → i < length xs → RaisedIn (get_or xs i no_voice) ys) → Rise binary32 3 (held xs) (held ys)
  openness-rises xs ys u v m =
      let w = openness-upto ys v in
      record { from = openness-upto xs u; to = w; up = openness-least xs (held ys) u w (all-places _ no_voice xs (λ i l. under i l)) }
    where
      under : (i : ℕ) → i < length xs → VoiceBelow (get_or xs i no_voice) (held ys)
      under i l =
          let r = m i l in
          below_raised (get_or xs i no_voice) (get_or ys r.place no_voice) (all-at RealVoice xs i no_voice u l) (all-at RealVoice ys r.place no_voice v r.there) r.above (held ys) (openness-upto ys v)
          (all-at _ ys r.place no_voice (voices-below ys v) r.there)
