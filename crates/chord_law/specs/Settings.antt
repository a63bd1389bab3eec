-- The same settings and the same table entries in both calls: whole numbers, the switch and the
-- shape are the same, and all else is equal as f32, so that the sign of a zero does not count.
-- Assumes nothing.
use Rattle.std.specs.Prelude.{◌≡◌, List, ℕ, ◌<◌, T, length, get_or, Float}
use Rattle.std.specs.Float.{nan}
use Rattle.std.specs.Float.Ieee.{eq}
use Rattle.scene.specs.declared.MotionConfig.{MotionConfig}
use Rattle.scene.specs.declared.MaskConfig.{MaskConfig}

pub record SameMotion (a b : MotionConfig) : Type 0 where
  pub shape : a.shape ≡ b.shape
  pub depth : T (eq a.depth_db b.depth_db)
  pub phase : T (eq a.phase b.phase)
  pub size : T (eq a.size_octaves b.size_octaves)

pub record SameSettings (a b : MaskConfig) : Type 0 where
  pub rate : T (eq a.sample_rate b.sample_rate)
  pub size : a.fft_size ≡ b.fft_size
  pub note-depth : T (eq a.note_depth_db b.note_depth_db)
  pub note-layer : a.note_layer_enabled ≡ b.note_layer_enabled
  pub width : T (eq a.width_cents b.width_cents)
  pub partials : a.partials ≡ b.partials
  pub rolloff : T (eq a.harmonic_rolloff_db_per_octave b.harmonic_rolloff_db_per_octave)
  pub motion : SameMotion a.motion b.motion

-- entry 0 is not read
abbrev pub SameEntries : List Float → List Float → Type 0
SameEntries s t = (i : ℕ) → 0 < i → i < length s → T (eq (get_or s i nan) (get_or t i nan))
