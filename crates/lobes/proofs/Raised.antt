-- A voice and one that is raised above it: the same pitch, the same fall of the partials and the
-- same balance, and level, pressure, volume and expression no lower. Partial by partial the two
-- have lobes on the same bins, and at each bin what the raised voice opens is at least what the
-- other opens. The bell is the same, and the rest are products that keep the order. Assumes
-- nothing.
use mathlib.Core.Path.{◌≡◌, refl}
use mathlib.Core.List.{List}
use Prim.Native.Nat.{ℕ, ◌≤◌}
use lib.Dec.{T, lit≤}
use lib.Ieee.{Float, nan, inf, fin, binary32, fits, le, mul}
use lib.Ieee.Fits.{sub-fits}
use Rattle.float_laws.specs.Units.{number, real}
use Rattle.float_laws.specs.Order as order
use Rattle.float_laws.specs.Round.{plus_zero}
use Rattle.float_laws.specs.Rise.{Upto, Rise, Up, rise-refl, rise-mul, up-scale, up-clamp}
use Rattle.float32.specs.Order.{maximum, clamp}
use Rattle.float32.specs.Powers.{square}
use Rattle.float32.specs.Remainder.{zero, one}
use Rattle.float32.proofs.OrderAgrees.{clamp-agrees, maximum-nan-first, maximum-larger}
use Rattle.gaussian.proofs.InUnit.{gaussian-in-unit}
use Rattle.scene.specs.declared.MaskVoice.{MaskVoice}
use Rattle.scene.specs.Voices.{RealVoice}
use Rattle.lobes.specs.declared.Grid.{Grid}
use Rattle.lobes.specs.declared.Lobe.{Lobe}
use Rattle.lobes.specs.Pan.{Side, balance, pan_of, channel_gain}
use Rattle.lobes.specs.Tone.{timbre_rolloff, fundamental_of, tone_of}
use Rattle.lobes.specs.Distance.{Logs, lent, distance, bell}
use Rattle.lobes.specs.Lobe.{lobe_of, relative_square, opening}
use Rattle.lobes.proofs.NoteLevels.{zero_is, one-is, note-level-rises}
use Rattle.lobes.proofs.Harmonics.{rolloff-low, rolloff-real, harmonic-gain-unit}
use Rattle.lobes.proofs.Channels.{channel-gain-rises}

pub record Raised (a b : MaskVoice) : Type 0 where
  pub pitch : fundamental_of a ≡ fundamental_of b
  pub rolloff : (r : Float) → timbre_rolloff r a.timbre ≡ timbre_rolloff r b.timbre
  pub balance : (side : Side) → balance side (pan_of a) ≡ balance side (pan_of b)
  pub level : Rise binary32 0 a.level b.level
  pub volume : T (le a.volume_gain b.volume_gain)
  pub pressure : T (le a.pressure b.pressure)
  pub expression : T (le a.expression_gain b.expression_gain)

-- ---- the relative square is a number: where a distance overflows, maximum gives 0 for NaN
pub from_zero : (x : Float) → T (fits binary32 x) → T (number binary32 (maximum x zero))
unfolding fits
from_zero nan f = rw (maximum-nan-first, zero_is) tt
from_zero (inf s) f = rw (maximum-larger binary32 (inf s) zero tt, zero_is) (order.larger-number binary32 (inf s) plus_zero tt tt)
from_zero (fin s m e) f = rw (maximum-larger binary32 (fin s m e) zero f, zero_is) (order.larger-number binary32 (fin s m e) plus_zero f tt)

square-number : (grid : Grid) (logs : Logs) (lobe : Lobe) (bin : ℕ) → T (number binary32 (relative_square grid logs lobe bin))
unfolding relative_square
square-number grid logs lobe bin = from_zero _ (sub-fits binary32 (square (distance grid logs lobe.center bin)) lobe.peak_squared)

bell-unit : (grid : Grid) (table : List Float) (lobe : Lobe) (bin : ℕ) → Upto binary32 0 (bell (lent table) (relative_square grid (lent table) lobe bin))
unfolding bell
bell-unit grid table lobe bin = gaussian-in-unit _ (square-number grid (lent table) lobe bin)

clamp-rises : {x y : Float} → Up binary32 x y → Rise binary32 0 (clamp zero one x) (clamp zero one y)
clamp-rises {x} {y} u = rw (zero_is, one-is, clamp-agrees plus_zero _ x, clamp-agrees plus_zero _ y) (up-clamp binary32 u)

-- ---- a partial of the two voices
module _ (grid : Grid) (table : List Float) (r : T (real binary32 grid.rolloff)) (side : Side) (a b : MaskVoice) (u : RealVoice a) (v : RealVoice b) (h : Raised a b)
    (partial : ℕ) (least : 1 ≤ partial) (most : partial ≤ 24) where
  abbrev lobe : MaskVoice → Lobe
  lobe voice = lobe_of grid (lent table) (tone_of grid voice) partial

  pub same-bins : ((lobe a).first_bin ≡ (lobe b).first_bin) × ((lobe a).last_bin ≡ (lobe b).last_bin)
  unfolding lobe_of tone_of
  same-bins = rw h.pitch (refl, refl)

  same-square : (bin : ℕ) → relative_square grid (lent table) (lobe a) bin ≡ relative_square grid (lent table) (lobe b) bin
  unfolding relative_square lobe_of tone_of
  same-square bin = rw h.pitch refl

  strength-rises : Up binary32 (lobe a).strength (lobe b).strength
  unfolding lobe_of tone_of
  strength-rises =
      rw (h.rolloff grid.rolloff)
      (up-scale binary32 (note-level-rises a b u v h.level h.volume h.pressure)
      (rise-refl binary32 (harmonic-gain-unit partial least most (timbre_rolloff grid.rolloff b.timbre) (rolloff-real grid.rolloff b.timbre r v.timbre-real) (rolloff-low grid.rolloff b.timbre r v.timbre-real))))

  opening-rises : (bin : ℕ) → Rise binary32 0 (opening grid (lent table) (lobe a) bin) (opening grid (lent table) (lobe b) bin)
  unfolding opening
  opening-rises bin = rw (same-square bin) (clamp-rises (up-scale binary32 strength-rises (rise-refl binary32 (bell-unit grid table (lobe b) bin))))

  pub opened-rises : (bin : ℕ)
      → Rise binary32 3 (mul binary32 (opening grid (lent table) (lobe a) bin) (channel_gain side a)) (mul binary32 (opening grid (lent table) (lobe b) bin) (channel_gain side b))
  opened-rises bin = rise-mul binary32 0 3 (lit≤ tt) (opening-rises bin) (channel-gain-rises side a b u v (h.balance side) h.expression)
