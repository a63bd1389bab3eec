-- The sign of a zero does not count in a lobe. Of a voice: its tuning only enters a power, its
-- timbre is taken from a half, and a pan of either zero is the centre. Of the settings: the rolloff
-- only enters a gain. Of the table: an entry only enters a square. So equal voices have one pitch,
-- one fall of the partials and one balance, and with equal settings and entries a lobe is the same
-- and opens the same. Assumes nothing.
use mathlib.Core.Path.{◌≡◌, refl, sym, ap, ◌∙◌}
use mathlib.Core.Bool.{true, false, cond}
use mathlib.Core.List.{List}
use Prim.Native.Nat.{ℕ, ◌≤◌}
use native.Mathlib.Omega.{arith}
use lib.Count.{count_trailing_zeros}
use lib.ListN.{get_or}
use lib.Ieee.{Float, nan, binary32, of_bits, of_fields, is_nan, neg, add, sub, sum, mul, lt, eq, round, size, span, climb, units, odd}
use Rattle.lists.specs.Interpolation.{interp}
use Rattle.float_laws.specs.Same.{Same, same, nought, through, carried, same-mul, same_add, same-sub, same_div, same-neg}
use Rattle.float32.specs.Order.{clamp, finite}
use Rattle.float32.specs.Powers.{square}
use Rattle.float32.specs.Remainder.{zero, one, half}
use Rattle.float32.specs.Value.{moved}
use Rattle.power.specs.Table.{power_table}
use Rattle.power.specs.Power.{power_at, power_of, E2}
use Rattle.power.specs.Log.{L2}
use Rattle.decibels.specs.Gain.{gain_of}
use Rattle.pitch.specs.Pitch.{a4_hertz}
use Rattle.scene.specs.declared.MaskVoice.{MaskVoice}
use Rattle.scene.specs.declared.Pitch.{Pitch}
use Rattle.scene.specs.declared.Pitch.TheVariants.{Note, Hertz}
use Rattle.lobes.specs.declared.Grid.{Grid}
use Rattle.lobes.specs.declared.Lobe.{Lobe}
use Rattle.lobes.specs.Pan.{Side, hard_left, hard_right, balance, pan_of}
use Rattle.lobes.specs.Tone.{timbre_range_db, max_rolloff_db, note_level, timbre_rolloff, pitch_hertz, fundamental_of, tone_of, center_of, harmonic_gain}
use Rattle.lobes.specs.Distance.{lent, distance, bell}
use Rattle.lobes.specs.Peak.{closest_bin}
use Rattle.lobes.specs.Lobe.{first_bin_of, last_bin_of, lobe_of, relative_square, opening}
use Rattle.lobes.proofs.Closest.{closest-le, closest-pos}

-- ---- functions of the value alone
power-alone : {x y : Float} → Same x y → E2 x ≡ E2 y
unfolding E2 power_of power_at moved interp power_table is_nan odd count_trailing_zeros
power-alone = through E2 refl

pub gain-alone : {x y : Float} → Same x y → gain_of x ≡ gain_of y
gain-alone h = power-alone (same-mul binary32 (same_div binary32 _ h) same)

square-alone : {x y : Float} → Same x y → square x ≡ square y
unfolding mul round size span climb units odd count_trailing_zeros
square-alone = through square refl

-- ---- a voice
half-less : sub binary32 half (clamp zero one (nought false)) ≡ sub binary32 half (clamp zero one (nought true))
unfolding clamp lt sub add sum neg of_bits of_fields round size span climb units odd count_trailing_zeros
half-less = refl

-- pitches of one form: one note, with tunings that differ at most in the sign of a zero, or one
-- frequency
abbrev pub AlikePitch : Pitch → Pitch → Type 0
AlikePitch (Note n t) (Note m u) = (n ≡ m) × Same t u
AlikePitch (Hertz f) (Hertz g) = f ≡ g
AlikePitch (Note n t) (Hertz g) = ⊥
AlikePitch (Hertz f) (Note m u) = ⊥

hertz-same : (p q : Pitch) → AlikePitch p q → pitch_hertz p ≡ pitch_hertz q
unfolding pitch_hertz
hertz-same (Note n t) (Note m u) h =
    rw h.0
    (ap (λ (x : Float). mul binary32 a4_hertz x) (power-alone (same_div binary32 _ (same-sub binary32 (same_add binary32 same h.1) same))))
hertz-same (Hertz f) (Hertz g) h = h
hertz-same (Note n t) (Hertz g) h = absurd h
hertz-same (Hertz f) (Note m u) h = absurd h

module _ (a b : MaskVoice) where
  pub pitch-same : AlikePitch a.pitch b.pitch → fundamental_of a ≡ fundamental_of b
  unfolding fundamental_of
  pitch-same h = hertz-same a.pitch b.pitch h

  pub timbre-same : Same a.timbre b.timbre → (r : Float) → timbre_rolloff r a.timbre ≡ timbre_rolloff r b.timbre
  unfolding timbre_rolloff
  timbre-same h r = ap (λ (x : Float). clamp zero max_rolloff_db (add binary32 r (mul binary32 x timbre_range_db))) (through (λ t. sub binary32 half (clamp zero one t)) half-less h)

  pub balance-same : Same a.pan b.pan → (side : Side) → balance side (pan_of a) ≡ balance side (pan_of b)
  unfolding balance finite clamp lt eq of_bits of_fields odd count_trailing_zeros
  balance-same h side = through (λ p. balance side (cond (finite p) (clamp hard_left hard_right p) zero)) refl h

-- ---- the settings' rolloff
limit-keeps : {x y : Float} → Same x y → Same (clamp zero max_rolloff_db x) (clamp zero max_rolloff_db y)
unfolding clamp lt of_bits of_fields odd count_trailing_zeros
limit-keeps = carried (λ x. clamp zero max_rolloff_db x) false true refl refl

rolloff-same : {r r' : Float} → Same r r' → (timbre : Float) → Same (timbre_rolloff r timbre) (timbre_rolloff r' timbre)
unfolding timbre_rolloff
rolloff-same h timbre = limit-keeps (same_add binary32 h same)

harmonic-same : {r r' : Float} → Same r r' → (partial : ℕ) → harmonic_gain r partial ≡ harmonic_gain r' partial
unfolding harmonic_gain
harmonic-same h partial = gain-alone (same-mul binary32 (same-neg binary32 h) same)

-- ---- two grids that differ at most in the sign of a zero rolloff, and two tables with equal
-- entries on the bins 1..last
pub record SameGrid (g h : Grid) : Type 0 where
  pub nyquist : g.nyquist ≡ h.nyquist
  pub bin-hz : g.bin_hz ≡ h.bin_hz
  pub width : g.width ≡ h.width
  pub lower-ratio : g.lower_ratio ≡ h.lower_ratio
  pub upper-ratio : g.upper_ratio ≡ h.upper_ratio
  pub last-bin : g.last_bin ≡ h.last_bin
  pub partials : g.partials ≡ h.partials
  pub rolloff : Same g.rolloff h.rolloff

abbrev pub SameTable : ℕ → List Float → List Float → Type 0
SameTable last s t = (bin : ℕ) → 1 ≤ bin → bin ≤ last → Same (get_or s bin nan) (get_or t bin nan)

module _ (g h : Grid) (w : SameGrid g h) (s t : List Float) (some : 1 ≤ g.last_bin) (e : SameTable g.last_bin s t) where
  square-same : (center : Float) (bin : ℕ) → 1 ≤ bin → bin ≤ g.last_bin → square (distance g (lent s) center bin) ≡ square (distance h (lent t) center bin)
  unfolding distance
  square-same center bin l m = rw (sym w.width) (square-alone (same_div binary32 _ (same-mul binary32 same (same-sub binary32 (e bin l m) same))))

  module _ (voice : MaskVoice) (partial : ℕ) where
    abbrev center : Float
    center = center_of (tone_of h voice) partial

    abbrev made : Float → ℕ → ℕ → Float → Lobe
    made strength first last peak = record { center = center; center_log2 = L2 center; strength = strength; first_bin = first; last_bin = last; peak_squared = peak }

    alike : {x x' y y' : Float} {m m' n n' : ℕ} → x ≡ x' → m ≡ m' → n ≡ n' → y ≡ y' → made x m n y ≡ made x' m' n' y'
    alike {x} {x'} {y} {y'} {m} {m'} {n} {n'} a b c d = ap (λ z. made z m n y) a ∙ ap (λ z. made x' z n y) b ∙ ap (λ z. made x' m' z y) c ∙ ap (λ z. made x' m' n' z) d

    strength-same : mul binary32 (note_level voice) (harmonic_gain (timbre_rolloff g.rolloff voice.timbre) partial) ≡ mul binary32 (note_level voice) (harmonic_gain (timbre_rolloff h.rolloff voice.timbre) partial)
    strength-same = ap (λ (x : Float). mul binary32 (note_level voice) x) (harmonic-same (rolloff-same w.rolloff voice.timbre) partial)

    first-same : first_bin_of g center ≡ first_bin_of h center
    first-same = rw (w.lower-ratio, w.bin-hz) refl

    last-same : last_bin_of g center ≡ last_bin_of h center
    last-same = rw (w.upper-ratio, w.bin-hz, w.last-bin) refl

    peak-same : square (distance g (lent s) center (closest_bin center g.bin_hz g.last_bin)) ≡ square (distance h (lent t) center (closest_bin center h.bin_hz h.last_bin))
    peak-same =
        square-same center (closest_bin center g.bin_hz g.last_bin) (closest-pos center g.bin_hz g.last_bin some) (closest-le center g.bin_hz g.last_bin)
        ∙ rw (w.bin-hz, w.last-bin) refl

    pub lobe-same : lobe_of g (lent s) (tone_of g voice) partial ≡ lobe_of h (lent t) (tone_of h voice) partial
    unfolding lobe_of tone_of
    lobe-same = alike strength-same first-same last-same peak-same

  -- what a lobe opens at a bin of 1..last
  pub opening-same : (lobe : Lobe) (bin : ℕ) → 1 ≤ bin → bin ≤ g.last_bin → opening g (lent s) lobe bin ≡ opening h (lent t) lobe bin
  unfolding opening relative_square bell
  opening-same lobe bin l m = rw (square-same lobe.center bin l m) refl

  -- a lobe is on such bins alone
  pub lobe-bins : (voice : MaskVoice) (partial : ℕ) → (1 ≤ (lobe_of h (lent t) (tone_of h voice) partial).first_bin) × ((lobe_of h (lent t) (tone_of h voice) partial).last_bin ≤ g.last_bin)
  unfolding lobe_of
  lobe-bins voice partial = rw w.last-bin (omega arith, omega arith)
