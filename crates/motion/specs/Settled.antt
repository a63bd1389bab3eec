-- The settings of a moving field as its shape uses them: depth at least 0, phase reduced to one
-- cycle, size at least min_size_octaves. Assumes nothing.
use Rattle.float32.specs.Order.{maximum}
use Rattle.float32.specs.Remainder.{zero, rem_euclid_one}
use Rattle.scene.specs.declared.MotionConfig.{MotionConfig}
use Rattle.motion.specs.Field.{min_size_octaves}

-- the settled settings
unfoldable pub settled : MotionConfig → MotionConfig
settled config =
    record {
      shape = config.shape;
      depth_db = maximum config.depth_db zero;
      phase = rem_euclid_one config.phase;
      size_octaves = maximum config.size_octaves min_size_octaves;
    }
