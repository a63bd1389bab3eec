-- What all bins of a mask share, computed once from its settings. Assumes nothing.
use Rattle.scene.specs.declared.MaskConfig.{MaskConfig}
use Rattle.frequencies.specs.Frequency.{bin_hertz}
use Rattle.masks.specs.Gates.{emphasis_gain, floor_gain}
use Rattle.motion.specs.Settled.{settled}
use Rattle.motion_compensation.specs.Compensation.{compensation}
use Rattle.bin_gains.specs.declared.Shared.{Shared}

abbrev pub shared_of : MaskConfig → Shared
shared_of config =
    record {
      bin_hz = bin_hertz config.sample_rate config.fft_size;
      field = settled config.motion;
      compensation = compensation config.motion;
      floor = floor_gain config.note_depth_db;
      emphasis = emphasis_gain config.width_cents;
    }
