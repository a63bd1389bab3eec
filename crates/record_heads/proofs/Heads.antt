-- A whole head, there and back: settings of an accepted size and a count come back from their head
-- to the bit, and a head whose zero bits are zero and whose floats are no NaN is the one that its
-- settings and count are written as. Assumes nothing.
use mathlib.Core.Path.{◌≡◌, refl, sym, ap, ◌∙◌}
use mathlib.Core.Bool.{true}
use mathlib.Core.List.{List, ◌++◌, append_assoc}
use Prim.Native.Nat.{ℕ, ◌^◌, ◌≤◌, ◌<◌}
use native.Mathlib.Nat.{mod-lt}
use native.Mathlib.Omega.{arith}
use lib.Dec.{T, eqb, eqb→eq}
use lib.Ieee.{Float}
use lib.ListN.{length, take, drop, length-append, length-drop}
use lib.Seq.{drop_at, take-add}
use borrow.Author.Tests.{eq-eqb}
use Rattle.lists.specs.Totals.{All, all_drop}
use Rattle.lists.specs.Bytes.{Byte, bytes_of, length-bytes, number-back, number-below}
use Rattle.lists.specs.Bytes.{bytes_back}
use Rattle.lists.specs.Pieces.{pieces_of}
use Rattle.lists.specs.Stores.{stored, stored-append}
use Rattle.limits.specs.Limits as limits
use Rattle.scene.specs.declared.MaskConfig.{MaskConfig}
use Rattle.scene.specs.Made.{shape_of, shape_number}
use Rattle.scene.proofs.Parts.{fields-same}
use Rattle.scene.proofs.Shapes.{shape-below, shape-of-number, number-of-shape}
use Rattle.record_words.specs.Floats.{floats_bytes, floats_of}
use Rattle.record_words.proofs.FloatLists.{Fits, Number, floats-length, floats-back}
use Rattle.record_words.proofs.FloatLists.{bytes-of-floats}
use Rattle.record_words.specs.Fields.{field_at}
use Rattle.record_heads.specs.Heads.{log_of, layer_number, FieldsFit, head_number}
use Rattle.record_heads.specs.Heads.{settings_floats, head_bytes}
use Rattle.record_heads.specs.Heads.{head_in, count_of, zero_bits, settings_of, settings_in}
use Rattle.record_heads.proofs.Fields as fields

pub head-length : (config : MaskConfig) (count : ℕ) → length (head_bytes config count) ≡ 31
unfolding head_bytes
head-length config count =
    omega (
      arith,
      length-append (bytes_of 3 (head_number config count)) (floats_bytes (settings_floats config)),
      length-bytes 3 (head_number config count),
      floats-length (settings_floats config),
    )

-- ---- there and back
module _ (config : MaskConfig) (count : ℕ) (fit : FieldsFit config count) (rest : List ℕ) where
  abbrev layer_fits : layer_number config.note_layer_enabled < 2
  layer_fits = fields.layer_below config.note_layer_enabled

  abbrev shape-fits : shape_number config.motion.shape < 8
  shape-fits = shape-below config.motion.shape

  abbrev log : ℕ
  log = log_of config.fft_size

  abbrev layer : ℕ
  layer = layer_number config.note_layer_enabled

  abbrev shape : ℕ
  shape = shape_number config.motion.shape

  abbrev bytes : List ℕ
  bytes = head_bytes config count ++ rest

  number_in : head_in bytes ≡ head_number config count
  unfolding head_bytes
  number_in =
      ap head_in
      (append_assoc (bytes_of 3 (head_number config count)) (floats_bytes (settings_floats config))
      rest)
      ∙ number-back 3 (head_number config count) (floats_bytes (settings_floats config) ++ rest)
      (fields.packed-below log layer shape config.partials count fit.log layer_fits
      shape-fits fit.partials fit.count_fits)

  pub count-back : count_of (head_in bytes) ≡ count
  count-back =
      ap count_of number_in
      ∙ fields.count-back log layer shape config.partials count fit.log layer_fits shape-fits
      fit.partials fit.count_fits

  pub zeros-back : zero_bits (head_in bytes) ≡ true
  zeros-back =
      ap zero_bits number_in
      ∙ eq-eqb (field_at (head_number config count) 0 3) 0
      (fields.zeros-back log layer shape config.partials count fit.log layer_fits shape-fits
      fit.partials fit.count_fits)

  floats-in : All Fits (settings_floats config) → floats_of (drop 3 bytes) 7 ≡ settings_floats config
  unfolding head_bytes
  floats-in held =
      ap (λ (l : List ℕ). floats_of l 7)
      (ap (drop 3)
      (append_assoc (bytes_of 3 (head_number config count)) (floats_bytes (settings_floats config))
      rest)
      ∙ drop_at (bytes_of 3 (head_number config count)) (floats_bytes (settings_floats config) ++ rest)
      3 (length-bytes 3 (head_number config count)))
      ∙ floats-back (settings_floats config) rest held

  settings-of-number :
      T (limits.size config.fft_size)
      → settings_of (head_number config count) (settings_floats config) ≡ config
  unfolding settings_of
  settings-of-number accepted =
      let p = config.partials in
      let a = fit.log in
      let d = fit.partials in
      let e = fit.count_fits in
      fields-same config
      (ap (λ (k : ℕ). 2 ^ k) (fields.log_back log layer shape p count a layer_fits shape-fits d e)
      ∙ fields.size-of-log config.fft_size accepted)
      (ap (λ (k : ℕ). eqb k 1)
      (fields.layer-back log layer shape p count a layer_fits shape-fits d e)
      ∙ fields.layer-of-number config.note_layer_enabled)
      (fields.partials-back log layer shape p count a layer_fits shape-fits d e)
      (ap shape_of (fields.shape-back log layer shape p count a layer_fits shape-fits d e)
      ∙ shape-of-number config.motion.shape)

  pub settings-back :
      T (limits.size config.fft_size) → All Fits (settings_floats config)
      → settings_in bytes ≡ config
  settings-back accepted held =
      ap (λ (n : ℕ). settings_of n (floats_of (drop 3 bytes) 7)) number_in
      ∙ ap (settings_of (head_number config count)) (floats-in held) ∙ settings-of-number accepted

-- ---- back and there
-- the settings of a number and seven floats have these floats, and are packed into this number
pub seven : (n : ℕ) (bs : List ℕ) → settings_floats (settings_of n (floats_of bs 7)) ≡ floats_of bs 7
unfolding settings_of pieces_of
seven n bs = refl

number-there :
    (n : ℕ) (floats : List Float) → n < 2 ^ 24 → T (zero_bits n)
    → head_number (settings_of n floats) (count_of n) ≡ n
unfolding settings_of
number-there n floats h z =
    rw (
      fields.log-of-size (field_at n 20 4) (mod-lt _ (omega arith)),
      fields.number-of-layer (field_at n 19 1) (mod-lt _ (omega arith)),
      number-of-shape (field_at n 16 3) (mod-lt _ (omega arith)),
    )
    (fields.packed-there n h (eqb→eq (field_at n 0 3) 0 z))

pub head-there :
    (bs : List ℕ) → 31 ≤ length bs → All Byte bs → T (zero_bits (head_in bs))
    → All Number (floats_of (drop 3 bs) 7)
    → head_bytes (settings_in bs) (count_of (head_in bs)) ≡ take 31 bs
unfolding head_bytes
head-there bs l h z m =
    let below = number-below 3 bs (omega arith) h in
    rw (
      number-there (head_in bs) (floats_of (drop 3 bs) 7) below z,
      seven (head_in bs) (drop 3 bs),
      bytes_back 3 bs (omega arith) h,
      bytes-of-floats 7 (drop 3 bs) (rw (length-drop 3 bs) (omega arith)) (all_drop Byte 3 bs h) m,
    )
    (sym (take-add 3 28 bs))

-- ---- what the code stores: the small fields, and the floats behind them
pub head-stored :
    (old now : List ℕ) (config : MaskConfig) (count n : ℕ) (floats : List Float)
    → now ≡ stored old 0 (bytes_of 3 n) → n ≡ head_number config count
    → floats ≡ settings_floats config
    → stored now 3 (floats_bytes floats) ≡ stored old 0 (head_bytes config count)
unfolding head_bytes
head-stored old now config count n floats e f g =
    rw (e, f, g)
    (stored-append old 0 3 (bytes_of 3 (head_number config count))
    (floats_bytes (settings_floats config)) (omega (arith, length-bytes 3 (head_number config count))))
