-- What follows from equal settings, equal entries and matched voices, in the terms of the laws
-- below: settings and entries that differ at most in signs of zeros, and a voice raised above
-- another. Assumes nothing.
use mathlib.Core.Path.{◌≡◌, refl, sym, ap, ◌∙◌}
use mathlib.Core.Bool.{true, false, not}
use mathlib.Core.List.{List}
use Prim.Native.Nat.{ℕ, ◌/◌, ◌+◌, ◌^◌, ◌≤◌, ◌<◌}
use native.Mathlib.Omega.{arith}
use lib.Dec.{T, T_not}
use lib.Pow.{pow_mono}
use lib.Count.{count_trailing_zeros}
use lib.ListN.{length, get_or}
use lib.Ieee.{Float, nan, binary32, le, eq, odd, of_bits, of_fields}
use Rattle.float_laws.specs.Units.{real, real-number}
use Rattle.float_laws.specs.Order.{not-lt-f}
use Rattle.float_laws.specs.Same.{Same, same, noughts, nought, eq-same}
use Rattle.float32.proofs.Limits.{within_low}
use Rattle.limits.specs.Limits as limits
use Rattle.limits.specs.Limits.{least_rate, most_rate, least_width, most_width}
use Rattle.limits.specs.Limits.{least_hertz, most_hertz}
use Rattle.limits.proofs.Sizes.{size-power}
use Rattle.scene.specs.declared.MaskVoice.{MaskVoice}
use Rattle.scene.specs.declared.Pitch.{Pitch}
use Rattle.scene.specs.declared.Pitch.TheVariants.{Note, Hertz}
use Rattle.scene.specs.declared.MaskConfig.{MaskConfig}
use Rattle.scene.specs.Accepted.{size_accepted, settings_accepted}
use Rattle.scene.specs.Voices.{RealPitch, RealVoice}
use Rattle.lobes.specs.Pan.{Side}
use Rattle.lobes.specs.Distance.{lent}
use Rattle.lobes.proofs.Raised.{Raised}
use Rattle.lobes.proofs.ZeroSigns.{SameTable, AlikePitch, pitch-same, timbre-same, balance-same}
use Rattle.mask_builder.specs.Mask.{mask_at}
use Rattle.mask_builder.proofs.ZeroSigns.{SameConfig, mask-same}
use Rattle.chord_law.specs.Calls.{Call, Accepted, whole, F32Call}
use Rattle.chord_law.specs.Voices.{NoLower, SamePitch, Matched}
use Rattle.chord_law.specs.Settings.{SameSettings, SameEntries}
use Rattle.scene.specs.F32.{F32Settings}
use Rattle.scene.proofs.SettingsNumbers as numbers
use Rattle.chord_law.proofs.Acceptance.{size-accepted, settings-accepted}
use Rattle.chord_law.proofs.Acceptance.{table-length, entry-number}

-- ---- equal numbers that are at least a number above 0 are the same
pub record Above (least : Float) : Type 0 where
  pub plus : T (not (le least (nought false)))
  pub minus : T (not (le least (nought true)))

same_above : (least : Float) → Above least → {x y : Float} → Same x y → T (le least x) → x ≡ y
same_above least a same h = refl
same_above least a (noughts false t) h = absurd (T_not (le least (nought false)) a.plus h)
same_above least a (noughts true t) h = absurd (T_not (le least (nought true)) a.minus h)

rate-above : Above least_rate
unfolding of_bits of_fields odd count_trailing_zeros le
rate-above = record { plus = tt; minus = tt }

hertz-above : Above least_hertz
unfolding of_bits of_fields odd count_trailing_zeros le
hertz-above = record { plus = tt; minus = tt }

width_above : Above least_width
unfolding of_bits of_fields odd count_trailing_zeros le
width_above = record { plus = tt; minus = tt }

-- ---- the settings
module _ (a b : MaskConfig) (s : T (size_accepted a)) (s' : T (size_accepted b))
    (t : T (settings_accepted a)) (t' : T (settings_accepted b)) (f : F32Settings a)
    (f' : F32Settings b) (h : SameSettings a b) where
  pub same-config : SameConfig a b
  same-config =
      record {
        rate =
            same_above least_rate rate-above
            (eq-same binary32 a.sample_rate b.sample_rate (numbers.rate-number a s t f)
            (numbers.rate-number b s' t' f') h.rate)
            (within_low least_rate most_rate a.sample_rate (numbers.rate-within a s t f));
        size = h.size;
        note-depth =
            eq-same binary32 a.note_depth_db b.note_depth_db
            (numbers.note-depth-number a s t f) (numbers.note-depth-number b s' t' f')
            h.note-depth;
        note-layer = h.note-layer;
        width =
            same_above least_width width_above
            (eq-same binary32 a.width_cents b.width_cents (numbers.width-number a s t f)
            (numbers.width-number b s' t' f') h.width)
            (within_low least_width most_width a.width_cents (numbers.width-within a s t f));
        partials = h.partials;
        rolloff =
            eq-same binary32 a.harmonic_rolloff_db_per_octave
            b.harmonic_rolloff_db_per_octave
            (real-number binary32 a.harmonic_rolloff_db_per_octave
            (numbers.rolloff-real a s t f))
            (real-number binary32 b.harmonic_rolloff_db_per_octave
            (numbers.rolloff-real b s' t' f')) h.rolloff;
        shape = h.motion.shape;
        motion-depth =
            eq-same binary32 a.motion.depth_db b.motion.depth_db
            (real-number binary32 a.motion.depth_db (numbers.motion-depth-real a s t f))
            (real-number binary32 b.motion.depth_db (numbers.motion-depth-real b s' t' f'))
            h.motion.depth;
        phase =
            eq-same binary32 a.motion.phase b.motion.phase (numbers.phase-number a s t f)
            (numbers.phase-number b s' t' f') h.motion.phase;
        motion-size =
            eq-same binary32 a.motion.size_octaves b.motion.size_octaves
            (numbers.motion-size-number a s t f) (numbers.motion-size-number b s' t' f')
            h.motion.size;
      }

-- ---- a size has bins above bin 0
some-bins : (n : ℕ) → T (limits.size n) → 1 ≤ n / 2
some-bins n t =
    let p = size-power n t in
    let two = pow_mono {i = 1} {j = p.exponent} (omega (arith, p.from)) in
    rw p.is (half_of (2 ^ p.exponent) two)
  where
    half_of : (m : ℕ) → 2 ≤ m → 1 ≤ m / 2
    half_of m h = omega arith

-- ---- the table
module _ (a b : Call) (p : Accepted (whole a)) (q : Accepted (whole b)) (f : F32Call a)
    (g : F32Call b) where
  pub same-lengths :
      a.config.fft_size ≡ b.config.fft_size → length a.table ≡ length b.table
  same-lengths e = table-length a p ∙ ap (λ (n : ℕ). n / 2 + 1) e ∙ sym (table-length b q)

  pub same-table :
      a.config.fft_size ≡ b.config.fft_size → SameEntries a.table b.table
      → SameTable (a.config.fft_size / 2) a.table b.table
  same-table e h bin l m =
      let k : bin < length a.table = omega (arith, table-length a p) in
      let k' : bin < length b.table = omega (arith, same-lengths e) in
      eq-same binary32 (get_or a.table bin nan) (get_or b.table bin nan)
      (entry-number a p f bin l k) (entry-number b q g bin l k') (h bin l k)

  -- a bin of a mask is the same on either settings and table
  pub mask-on :
      SameSettings a.config b.config → SameEntries a.table b.table
      → (side : Side) (curve : List Float) (voices : List MaskVoice) (bin : ℕ)
      → mask_at curve a.config (lent a.table) side voices bin
      ≡ mask_at curve b.config (lent b.table) side voices bin
  mask-on settings entries =
      let s = size-accepted a p in
      let t = settings-accepted a p in
      let size = numbers.size-within a.config s t f.settings-f32 in
      mask-same a.config b.config
      (same-config a.config b.config s (size-accepted b q) t (settings-accepted b q)
      f.settings-f32 g.settings-f32 settings)
      a.table b.table (some-bins a.config.fft_size size)
      (same-table settings.size entries)

-- ---- a voice
no_lower : (x y : Float) → T (real binary32 x) → T (real binary32 y) → NoLower x y → T (le x y)
no_lower x y p q h = not-lt-f binary32 y x (real-number binary32 y q) (real-number binary32 x p) h

equal : {x y : Float} → T (real binary32 x) → T (real binary32 y) → T (eq x y) → Same x y
equal {x} {y} p q h = eq-same binary32 x y (real-number binary32 x p) (real-number binary32 y q) h

alike-pitch :
    (p q : Pitch) → RealPitch p → RealPitch q → SamePitch p q → AlikePitch p q
alike-pitch (Note n t) (Note m u) p q h =
    (h.note, equal p.tuning-real q.tuning-real h.tuning)
alike-pitch (Hertz f) (Hertz g) p q h =
    same_above least_hertz hertz-above (equal p.hertz-real q.hertz-real h)
    (within_low least_hertz most_hertz f p.hertz-within)
alike-pitch (Note n t) (Hertz g) p q h = absurd h
alike-pitch (Hertz f) (Note m u) p q h = absurd h

pub matched-raised : (a b : MaskVoice) → RealVoice a → RealVoice b → Matched a b → Raised a b
matched-raised a b u v m =
    record {
      pitch =
          pitch-same a b
          (alike-pitch a.pitch b.pitch u.pitch-real v.pitch-real m.pitch);
      rolloff = timbre-same a b (equal u.timbre-real v.timbre-real m.timbre);
      balance = balance-same a b (equal u.pan-real v.pan-real m.pan);
      level =
          record {
            from = u.level-unit;
            to = v.level-unit;
            up =
                no_lower a.level b.level u.level-unit.is_real v.level-unit.is_real
                m.level;
          };
      volume =
          no_lower a.volume_gain b.volume_gain u.volume-real v.volume-real
          m.volume;
      pressure =
          no_lower a.pressure b.pressure u.pressure-real v.pressure-real m.pressure;
      expression =
          no_lower a.expression_gain b.expression_gain u.expression-real
          v.expression-real m.expression;
    }
