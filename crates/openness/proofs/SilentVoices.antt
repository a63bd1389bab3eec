-- A voice whose gain on a side is a zero, of either sign, leaves what a bin holds there, to the
-- bit: each of its lobes under the gain is a zero, and a maximum with a zero keeps an openness.
-- Assumes nothing.
use mathlib.Core.Path.{◌≡◌, refl, sym, ap, ◌∙◌, subst}
use mathlib.Core.Bool.{Bool, true, false, cond}
use mathlib.Core.List.{List, [], ◌∷◌}
use Prim.Native.Nat.{ℕ, ◌*◌}
use native.Mathlib.Nat.{zero-mul, mul-pos}
use lib.Dec.{T, lit<}
use lib.Ieee.{Float, nan, inf, fin, binary32, up, down, unlike, le, mul, round}
use lib.Ieee.Fits.{down_pos}
use Rattle.lists.specs.Folds.{fold}
use Rattle.lists.specs.Totals.{All}
use Rattle.float_laws.specs.Units.{number, real, real-number}
use Rattle.float_laws.specs.Order.{le-trans-f}
use Rattle.float_laws.specs.Round.{plus_zero, real-zero}
use Rattle.float_laws.specs.Ops.{mul-comm-f}
use Rattle.float_laws.specs.Same.{nought, round-zero}
use Rattle.float32.specs.Order.{maximum}
use Rattle.scene.specs.declared.MaskVoice.{MaskVoice}
use Rattle.scene.specs.Voices.{RealVoice}
use Rattle.lobes.specs.declared.Grid.{Grid}
use Rattle.lobes.specs.Pan.{Side, channel_gain}
use Rattle.lobes.specs.Distance.{lent}
use Rattle.lobe_joins.specs.Joined.{lobe_joined}
use Rattle.lobe_joins.proofs.Maxima.{Openness, FitWhere}
use Rattle.lobe_joins.proofs.Highest.{keeps-higher}
use Rattle.openness.specs.Openness.{skipped_level, tone_joined, voice_joined}
use Rattle.openness.proofs.RaisedVoices.{Fair, there, opens, joined, partials, open-partials}

-- ---- a zero of either sign
pub record Nought (x : Float) : Type 0 where
  pub of-sign : Bool
  pub is : x ≡ nought of-sign

-- a finite product with a zero is a zero
zero-times :
    (s : Bool) (y : Float) → T (real binary32 (mul binary32 (nought s) y))
    → Nought (mul binary32 (nought s) y)
unfolding mul
zero-times s nan p = absurd p
zero-times s (inf u) p = absurd p
zero-times s (fin u n d) p =
    record {
      of-sign = unlike s u;
      is =
          ap (λ (z : ℕ). round binary32 (unlike s u) z (1 * down d)) (zero-mul (n * up d))
          ∙ round-zero binary32 (unlike s u) (1 * down d) (mul-pos (lit< tt) (down_pos d));
    }

pub times_zero :
    (x y : Float) → Nought y → T (real binary32 (mul binary32 x y)) → Nought (mul binary32 x y)
times_zero x y z p =
    let e : mul binary32 x y ≡ mul binary32 (nought z.of-sign) x =
    ap (mul binary32 x) z.is ∙ mul-comm-f binary32 x (nought z.of-sign) in
    let w = zero-times z.of-sign x (subst (λ (y : Float). T (real binary32 y)) e p) in
    record { of-sign = w.of-sign; is = e ∙ w.is }

nought-number : (s : Bool) → T (number binary32 (nought s))
nought-number s = real-number binary32 (nought s) (real-zero binary32 s)

no-higher : (s : Bool) → T (le (nought s) plus_zero)
unfolding le
no-higher false = tt
no-higher true = tt

nought-least : {x s : Float} → Nought x → Openness s → T (le x s)
nought-least {x} {s} z u =
    subst (λ (y : Float). T (le y s)) (sym z.is)
    (le-trans-f binary32 (nought z.of-sign) plus_zero s (nought-number z.of-sign)
    (nought-number false) (real-number binary32 s u.is_real) (no-higher z.of-sign) u.low)

module _ (grid : Grid) (fair : Fair grid) (table : List Float) (side : Side) (bin : ℕ)
    (voice : MaskVoice) (u : RealVoice voice) (silent : Nought (channel_gain side voice)) where
  abbrev here : ℕ → Bool
  here = there grid fair table side bin voice

  abbrev opened : ℕ → Float
  opened = opens grid fair table side bin voice

  abbrev step : Float → ℕ → Float
  step = joined grid fair table side bin voice

  -- a lobe of it
  lobe-kept :
      (s : Float) (partial : ℕ) → FitWhere here opened partial → Openness s → step s partial ≡ s
  unfolding lobe_joined
  lobe-kept s partial f o = go (here partial) f
    where
      go :
          (b : Bool) → (T b → Openness (opened partial))
          → cond b (maximum s (opened partial)) s ≡ s
      go true f =
          let z = times_zero _ (channel_gain side voice) silent (f tt).is_real in
          keeps-higher o (f tt) (nought-least z o)
      go false f = refl

  run-kept :
      (s : Float) (ps : List ℕ) → All (FitWhere here opened) ps → Openness s → fold step s ps ≡ s
  unfolding fold
  run-kept s [] f o = refl
  run-kept s (p ∷ ps) f o =
      ap (λ (t : Float). fold step t ps) (lobe-kept s p f.0 o) ∙ run-kept s ps f.1 o

  pub voice-kept :
      (s : Float) → Openness s → voice_joined grid (lent table) (channel_gain side) bin s voice ≡ s
  unfolding voice_joined tone_joined
  voice-kept s o = go (le voice.level skipped_level)
    where
      ps : List ℕ
      ps = partials grid fair table side bin voice

      go : (b : Bool) → cond b s (fold step s ps) ≡ s
      go true = refl
      go false = run-kept s ps (open-partials grid fair table side bin voice u) o
