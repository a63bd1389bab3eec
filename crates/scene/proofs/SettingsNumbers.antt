-- The numbers of accepted settings are finite. Assumes nothing.
use mathlib.Core.Bool.{Bool, ◌&&◌}
use lib.Dec.{T}
use lib.Count.{count_trailing_zeros}
use lib.Ieee.{binary32, fits, odd, of_bits, of_fields}
use lib.Ieee.Fits.{and_l, and_r}
use Rattle.float_laws.specs.Units.{number, real, real-number}
use Rattle.float32.specs.Order.{within}
use Rattle.float32.proofs.Limits.{within-number, within_real}
use Rattle.limits.specs.Limits as limits
use Rattle.limits.specs.Limits.{least_rate, most_rate, least_note_depth, most_note_depth, least_width, most_width, least_rolloff, most_rolloff}
use Rattle.scene.specs.declared.MaskConfig.{MaskConfig}
use Rattle.scene.specs.Accepted.{size_accepted, settings_accepted, motion_accepted}
use Rattle.scene.proofs.Settings.{depth-real, phase-real, size-real}
use Rattle.scene.specs.F32.{F32Settings}

-- the settings, as far as the laws of the masks ask for them
pub record RealSettings (config : MaskConfig) : Type 0 where
  pub note-depth : T (fits binary32 config.note_depth_db)
  pub width : T (real binary32 config.width_cents)
  pub rolloff : T (real binary32 config.harmonic_rolloff_db_per_octave)
  pub motion-depth : T (real binary32 config.motion.depth_db)

module _ (config : MaskConfig) (s : T (size_accepted config)) (t : T (settings_accepted config)) (f : F32Settings config) where
  abbrev notes : Bool
  notes = limits.note_depth config.note_depth_db && limits.width config.width_cents

  abbrev harmonics : Bool
  harmonics = limits.partials config.partials && limits.rolloff config.harmonic_rolloff_db_per_octave

  first : T notes
  unfolding settings_accepted
  first = and_l notes (harmonics && motion_accepted config.motion) t

  second : T (harmonics && motion_accepted config.motion)
  unfolding settings_accepted
  second = and_r notes (harmonics && motion_accepted config.motion) t

  pub motion-accepted : T (motion_accepted config.motion)
  motion-accepted = and_r harmonics (motion_accepted config.motion) second

  pub size-within : T (limits.size config.fft_size)
  unfolding size_accepted
  size-within = and_l (limits.size config.fft_size) (limits.rate config.sample_rate) s

  pub rate-within : T (within least_rate most_rate config.sample_rate)
  unfolding size_accepted
  rate-within = and_r (limits.size config.fft_size) (limits.rate config.sample_rate) s

  pub rate-number : T (number binary32 config.sample_rate)
  rate-number = within-number least_rate most_rate config.sample_rate rate-within binary32 f.rate

  pub width-within : T (within least_width most_width config.width_cents)
  width-within = and_r (limits.note_depth config.note_depth_db) (limits.width config.width_cents) first

  width-ends : T (real binary32 least_width) × T (real binary32 most_width)
  unfolding of_bits of_fields odd count_trailing_zeros fits
  width-ends = (tt, tt)

  pub width-real : T (real binary32 config.width_cents)
  width-real = within_real least_width most_width config.width_cents width-within binary32 f.width width-ends.0 width-ends.1

  pub width-number : T (number binary32 config.width_cents)
  width-number = within-number least_width most_width config.width_cents width-within binary32 f.width

  pub note-depth-number : T (number binary32 config.note_depth_db)
  note-depth-number =
      within-number least_note_depth most_note_depth config.note_depth_db
      (and_l (limits.note_depth config.note_depth_db) (limits.width config.width_cents) first) binary32 f.note-depth

  rolloff-ends : T (real binary32 least_rolloff) × T (real binary32 most_rolloff)
  unfolding of_bits of_fields odd count_trailing_zeros fits
  rolloff-ends = (tt, tt)

  pub rolloff-real : T (real binary32 config.harmonic_rolloff_db_per_octave)
  rolloff-real =
      within_real least_rolloff most_rolloff config.harmonic_rolloff_db_per_octave
      (and_r (limits.partials config.partials) (limits.rolloff config.harmonic_rolloff_db_per_octave) (and_l harmonics (motion_accepted config.motion) second)) binary32 f.rolloff
      rolloff-ends.0 rolloff-ends.1

  pub motion-depth-real : T (real binary32 config.motion.depth_db)
  motion-depth-real = depth-real config.motion motion-accepted f.motion-depth

  pub phase-number : T (number binary32 config.motion.phase)
  phase-number = real-number binary32 config.motion.phase (phase-real config.motion motion-accepted f.phase)

  pub motion-size-number : T (number binary32 config.motion.size_octaves)
  motion-size-number = real-number binary32 config.motion.size_octaves (size-real config.motion motion-accepted f.motion-size)

  pub real-settings : RealSettings config
  real-settings = record { note-depth = f.note-depth; width = width-real; rolloff = rolloff-real; motion-depth = motion-depth-real }
