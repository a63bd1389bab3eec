-- The head of a scene record, 31 bytes, in the words of request 104. Assumes nothing.
use Rattle.std.specs.Prelude.{Bool, cond, List, [], ◌∷◌, ◌++◌, ℕ, ◌^◌, ◌<◌, eqb, Float, get_or, drop}
use Rattle.std.specs.Int.Count.{count_trailing_zeros}
use Rattle.std.specs.Float.{nan}
use Rattle.lists.specs.Bytes.{number_at, bytes_of}
use Rattle.scene.specs.declared.MaskConfig.{MaskConfig}
use Rattle.scene.specs.Made.{shape_number, shape_of}
use Rattle.record_words.specs.Fields.{then, field_at}
use Rattle.record_words.specs.Floats.{floats_bytes, floats_of}

-- ---- the small fields

-- "the logarithm of the size": of a power of two, the number of its zero bits at the end
abbrev pub log_of : ℕ → ℕ
log_of size = count_trailing_zeros 64 size

-- "the note layer (1 is on)"
abbrev pub layer_number : Bool → ℕ
layer_number on = cond on 1 0

-- "4 bits for the logarithm of the size, 1 for the note layer, 3 for the shape, 5 for the partials,
-- 8 for the voice count, 3 zero bits"
unfoldable pub packed : ℕ → ℕ → ℕ → ℕ → ℕ → ℕ
packed log layer shape partials count =
    then (then (then (then (then log 1 layer) 3 shape) 5 partials) 8 count) 3 0

abbrev pub head_number : MaskConfig → ℕ → ℕ
head_number config count =
    packed (log_of config.fft_size) (layer_number config.note_layer_enabled)
    (shape_number config.motion.shape) config.partials count

-- each has room in its bits; the layer and the shape always have
pub record FieldsFit (config : MaskConfig) (count : ℕ) : Type 0 where
  pub log : log_of config.fft_size < 2 ^ 4
  pub partials : config.partials < 2 ^ 5
  pub count_fits : count < 2 ^ 8

-- ---- the floats

-- "then seven 32-bit floats: rate, note depth, width, rolloff, motion depth, phase, motion size"
abbrev pub settings_floats : MaskConfig → List Float
settings_floats config =
    config.sample_rate
    ∷ config.note_depth_db
    ∷ config.width_cents
    ∷ config.harmonic_rolloff_db_per_octave
    ∷ config.motion.depth_db
    ∷ config.motion.phase
    ∷ config.motion.size_octaves
    ∷ []

-- ---- written
unfoldable pub head_bytes : MaskConfig → ℕ → List ℕ
head_bytes config count =
    bytes_of 3 (head_number config count) ++ floats_bytes (settings_floats config)

-- ---- read
-- the small fields of a record
abbrev pub head_in : List ℕ → ℕ
head_in bytes = number_at bytes 0 3

abbrev pub count_of : ℕ → ℕ
count_of number = field_at number 3 8

-- whether the three bits at the end are zero
abbrev pub zero_bits : ℕ → Bool
zero_bits number = eqb (field_at number 0 3) 0

unfoldable pub settings_of : ℕ → List Float → MaskConfig
settings_of number floats =
    record {
      sample_rate = get_or floats 0 nan;
      fft_size = 2 ^ field_at number 20 4;
      note_depth_db = get_or floats 1 nan;
      note_layer_enabled = eqb (field_at number 19 1) 1;
      width_cents = get_or floats 2 nan;
      partials = field_at number 11 5;
      harmonic_rolloff_db_per_octave = get_or floats 3 nan;
      motion =
          record {
            shape = shape_of (field_at number 16 3);
            depth_db = get_or floats 4 nan;
            phase = get_or floats 5 nan;
            size_octaves = get_or floats 6 nan;
          };
    }

abbrev pub settings_in : List ℕ → MaskConfig
settings_in bytes = settings_of (head_in bytes) (floats_of (drop 3 bytes) 7)
