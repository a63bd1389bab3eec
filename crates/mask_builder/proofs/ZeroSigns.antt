-- With equal settings and table entries a bin of the mask is the same, whatever the signs of zeros
-- among them. Assumes nothing.
use mathlib.Core.Path.{◌≡◌, refl, ap, ◌∙◌}
use mathlib.Core.Logic.{inl, inr}
use mathlib.Core.Bool.{Bool, true, false, cond}
use mathlib.Core.List.{List}
use Prim.Native.Nat.{ℕ, ◌/◌, ◌≤◌}
use lib.Count.{count_trailing_zeros}
use lib.Ieee.{Float, binary32, of_bits, of_fields, is_nan, lt, mul, odd}
use Rattle.float_laws.specs.Same.{Same, carried, same-neg}
use Rattle.float32.specs.Order.{maximum}
use Rattle.float32.specs.Remainder.{zero, one}
use Rattle.scene.specs.declared.MaskVoice.{MaskVoice}
use Rattle.scene.specs.declared.MaskConfig.{MaskConfig}
use Rattle.frequencies.specs.Frequency.{bin_hertz, hertz}
use Rattle.masks.specs.Gates.{floor_gain}
use Rattle.motion.specs.Field.{resting_depth_db, motion_gain}
use Rattle.motion_compensation.specs.Compensation.{compensation}
use Rattle.motion_compensation.proofs.ZeroSigns.{one-or-resting, motion-gain-same, compensation-same}
use Rattle.lobes.specs.Grid.{grid_of}
use Rattle.lobes.specs.Pan.{Side}
use Rattle.lobes.specs.Distance.{lent}
use Rattle.lobes.proofs.ZeroSigns.{SameGrid, SameTable, gain-alone}
use Rattle.openness.specs.Openness.{openness}
use Rattle.openness.proofs.ZeroSigns.{openness-same}
use Rattle.bin_gains.specs.Gains.{motion_at, gate_at, ceiling_at}
use Rattle.mask_builder.specs.Mask.{openness_at, mask_at}

-- rate and width are above 0, so that equal ones are the same
pub record SameConfig (a b : MaskConfig) : Type 0 where
  pub rate : a.sample_rate ≡ b.sample_rate
  pub size : a.fft_size ≡ b.fft_size
  pub note-depth : Same a.note_depth_db b.note_depth_db
  pub note-layer : a.note_layer_enabled ≡ b.note_layer_enabled
  pub width : a.width_cents ≡ b.width_cents
  pub partials : a.partials ≡ b.partials
  pub rolloff : Same a.harmonic_rolloff_db_per_octave b.harmonic_rolloff_db_per_octave
  pub shape : a.motion.shape ≡ b.motion.shape
  pub motion-depth : Same a.motion.depth_db b.motion.depth_db
  pub phase : Same a.motion.phase b.motion.phase
  pub motion-size : Same a.motion.size_octaves b.motion.size_octaves

floor-alone : {x y : Float} → Same x y → floor_gain x ≡ floor_gain y
unfolding floor_gain maximum lt is_nan of_bits of_fields odd count_trailing_zeros
floor-alone h = gain-alone (same-neg binary32 (carried (λ d. maximum d zero) false true refl refl h))

module _ (a b : MaskConfig) (c : SameConfig a b) where
  same-grid : SameGrid (grid_of a) (grid_of b)
  unfolding grid_of
  same-grid =
      record {
        nyquist = rw c.rate refl;
        bin-hz = rw (c.rate, c.size) refl;
        width = rw c.width refl;
        lower-ratio = rw c.width refl;
        upper-ratio = rw c.width refl;
        last-bin = rw c.size refl;
        partials = rw c.partials refl;
        rolloff = c.rolloff;
      }

  moved_same : (bin : ℕ) → a.motion.depth_db ≡ b.motion.depth_db → motion_at a bin ≡ motion_at b bin
  unfolding motion_at
  moved_same bin d =
      ap (λ (x : Float). cond (lt resting_depth_db x) (mul binary32 (motion_gain (hertz (bin_hertz a.sample_rate a.fft_size) bin) a.motion) (compensation a.motion)) one) d
      ∙ ap (λ (x : Float). cond (lt resting_depth_db b.motion.depth_db) (mul binary32 x (compensation a.motion)) one) gains
      ∙ ap (λ (x : Float). cond (lt resting_depth_db b.motion.depth_db) (mul binary32 (motion_gain (hertz (bin_hertz b.sample_rate b.fft_size) bin) b.motion) x) one) (compensation-same a.motion b.motion c.shape d c.phase c.motion-size)
    where
      gains : motion_gain (hertz (bin_hertz a.sample_rate a.fft_size) bin) a.motion ≡ motion_gain (hertz (bin_hertz b.sample_rate b.fft_size) bin) b.motion
      gains = rw (c.rate, c.size) (motion-gain-same a.motion b.motion c.shape d c.phase c.motion-size _)

  rests : (bin : ℕ) → (lt resting_depth_db a.motion.depth_db ≡ false) × (lt resting_depth_db b.motion.depth_db ≡ false) → motion_at a bin ≡ motion_at b bin
  unfolding motion_at
  rests bin h = rw (h.0, h.1) refl

  motion-at-same : (bin : ℕ) → motion_at a bin ≡ motion_at b bin
  motion-at-same bin = elim (one-or-resting c.motion-depth) [ inl d ↦ moved_same bin d | inr h ↦ rests bin h ]

  gate-at-same : (o : Float) → gate_at a o ≡ gate_at b o
  unfolding gate_at
  gate-at-same o = rw (c.note-layer, c.width, floor-alone c.note-depth) refl

  module _ (s t : List Float) (some : 1 ≤ a.fft_size / 2) (e : SameTable (a.fft_size / 2) s t) (side : Side) where
    openness-at-same : (voices : List MaskVoice) (bin : ℕ) → openness_at a (lent s) side voices bin ≡ openness_at b (lent t) side voices bin
    unfolding openness_at
    openness-at-same voices bin =
        ap (λ (x : Bool). cond x (openness (grid_of a) (lent s) side voices bin) zero) c.note-layer
        ∙ ap (λ (x : Float). cond b.note_layer_enabled x zero) (unfold grid_of in openness-same (grid_of a) (grid_of b) same-grid s t some e side bin voices)

    pub mask-same : (curve : List Float) (voices : List MaskVoice) (bin : ℕ) → mask_at curve a (lent s) side voices bin ≡ mask_at curve b (lent t) side voices bin
    unfolding mask_at ceiling_at
    mask-same curve voices bin =
        rw (motion-at-same bin, openness-at-same voices bin, gate-at-same (openness_at b (lent t) side voices bin), c.size) refl
