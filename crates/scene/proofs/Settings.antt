-- What is known of accepted motion settings: each within its limits, and so a finite f32. Assumes
-- nothing.
use mathlib.Core.Bool.{◌&&◌}
use lib.Dec.{T}
use lib.Count.{count_trailing_zeros}
use lib.Ieee.{binary32, fits, odd, of_bits, of_fields}
use lib.Ieee.Fits.{and_l, and_r}
use Rattle.float_laws.specs.Units.{real}
use Rattle.float32.specs.Order.{finite}
use Rattle.float32.proofs.Limits.{within_real, finite-real}
use Rattle.limits.specs.Limits.{least_motion_depth, most_motion_depth, least_motion_size, most_motion_size, motion_depth, motion_size}
use Rattle.scene.specs.declared.MotionConfig.{MotionConfig}
use Rattle.scene.specs.Accepted.{motion_accepted}

ends : T (real binary32 least_motion_depth) × T (real binary32 most_motion_depth) × T (real binary32 most_motion_size)
unfolding of_bits of_fields odd count_trailing_zeros fits
ends = (tt, tt, tt)

module _ (config : MotionConfig) (t : T (motion_accepted config)) where
  pub depth-within : T (motion_depth config.depth_db)
  unfolding motion_accepted
  depth-within = and_l (motion_depth config.depth_db) (finite config.phase && motion_size config.size_octaves) t

  others : T (finite config.phase && motion_size config.size_octaves)
  unfolding motion_accepted
  others = and_r (motion_depth config.depth_db) (finite config.phase && motion_size config.size_octaves) t

  pub phase-finite : T (finite config.phase)
  phase-finite = and_l (finite config.phase) (motion_size config.size_octaves) others

  pub size-within : T (motion_size config.size_octaves)
  size-within = and_r (finite config.phase) (motion_size config.size_octaves) others

  pub depth-real : T (fits binary32 config.depth_db) → T (real binary32 config.depth_db)
  depth-real f = within_real least_motion_depth most_motion_depth config.depth_db depth-within binary32 f ends.0 ends.1

  pub phase-real : T (fits binary32 config.phase) → T (real binary32 config.phase)
  phase-real f = finite-real binary32 config.phase f phase-finite

  pub size-real : T (fits binary32 config.size_octaves) → T (real binary32 config.size_octaves)
  size-real f = within_real least_motion_size most_motion_size config.size_octaves size-within binary32 f ends.0 ends.2
