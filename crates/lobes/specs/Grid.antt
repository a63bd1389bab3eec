-- What all lobes of a mask share: the bin spacing, and how far a lobe reaches. The Rust's
-- `build_mask_with_voices_impl` computes it first. Assumes nothing.
use Rattle.std.specs.Prelude.{◌/◌, min, max, Float}
use Rattle.std.specs.Float.{binary32}
use Rattle.std.specs.Float.Ieee.{of_bits, neg, mul, div}
use Rattle.float32.specs.Order.{maximum}
use Rattle.float32.specs.Remainder.{one, half}
use Rattle.power.specs.Power.{E2}
use Rattle.limits.specs.Lengths.{max_partials}
use Rattle.frequencies.specs.Frequency.{bin_hertz}
use Rattle.scene.specs.declared.MaskConfig.{MaskConfig}
use Rattle.lobes.specs.declared.Grid.{Grid}

abbrev pub cents_per_octave : Float
cents_per_octave = of_bits binary32 0x4496_0000

-- a lobe ends at four widths from its centre
abbrev pub widths_to_the_end : Float
widths_to_the_end = of_bits binary32 0x4080_0000

-- how far a lobe reaches, in octaves
abbrev pub radius : Float → Float
radius width = div binary32 (mul binary32 widths_to_the_end width) cents_per_octave

-- width and partials have a minimum, and partials a maximum; accepted settings lie within them
unfoldable pub grid_of : MaskConfig → Grid
grid_of config =
    let width = maximum config.width_cents one in
    record {
      nyquist = mul binary32 config.sample_rate half;
      bin_hz = bin_hertz config.sample_rate config.fft_size;
      width = width;
      lower_ratio = E2 (neg (radius width));
      upper_ratio = E2 (radius width);
      last_bin = config.fft_size / 2;
      partials = min (max config.partials 1) max_partials;
      rolloff = config.harmonic_rolloff_db_per_octave;
    }
