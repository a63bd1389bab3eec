-- `Comparable` is symmetric: so is f32's equality, where no number is a NaN. Assumes nothing.
use mathlib.Core.Path.{sym}
use Prim.Native.Nat.{◌<◌}
use native.Mathlib.Omega.{arith}
use lib.Dec.{T}
use lib.ListN.{length, get_or}
use lib.Ieee.{nan, binary32}
use Rattle.float_laws.specs.Units.{real-number}
use Rattle.float_laws.specs.Order.{eq-sym-f}
use Rattle.scene.specs.declared.MaskConfig.{MaskConfig}
use Rattle.scene.specs.Accepted.{size_accepted, settings_accepted}
use Rattle.chord_law.specs.Calls.{Call, whole, F32Call}
use Rattle.chord_law.specs.Settings.{SameSettings, SameEntries}
use Rattle.chord_law.specs.Premises.{Comparable}
use Rattle.chord_law.proofs.Acceptance.{size-accepted, settings-accepted, entry-number}
use Rattle.scene.specs.F32.{F32Settings}
use Rattle.scene.proofs.SettingsNumbers as numbers
use Rattle.chord_law.proofs.Alike.{same-lengths}

settings-turned :
    (a b : MaskConfig) → T (size_accepted a) → T (size_accepted b) → T (settings_accepted a)
    → T (settings_accepted b) → F32Settings a → F32Settings b → SameSettings a b → SameSettings b a
settings-turned a b s s' t t' f f' h =
    record {
      rate =
          eq-sym-f binary32 a.sample_rate b.sample_rate (numbers.rate-number a s t f)
          (numbers.rate-number b s' t' f') h.rate;
      size = sym h.size;
      note-depth =
          eq-sym-f binary32 a.note_depth_db b.note_depth_db
          (numbers.note-depth-number a s t f) (numbers.note-depth-number b s' t' f')
          h.note-depth;
      note-layer = sym h.note-layer;
      width =
          eq-sym-f binary32 a.width_cents b.width_cents (numbers.width-number a s t f)
          (numbers.width-number b s' t' f') h.width;
      partials = sym h.partials;
      rolloff =
          eq-sym-f binary32 a.harmonic_rolloff_db_per_octave
          b.harmonic_rolloff_db_per_octave
          (real-number binary32 a.harmonic_rolloff_db_per_octave
          (numbers.rolloff-real a s t f))
          (real-number binary32 b.harmonic_rolloff_db_per_octave
          (numbers.rolloff-real b s' t' f')) h.rolloff;
      motion =
          record {
            shape = sym h.motion.shape;
            depth =
                eq-sym-f binary32 a.motion.depth_db b.motion.depth_db
                (real-number binary32 a.motion.depth_db (numbers.motion-depth-real a s t f))
                (real-number binary32 b.motion.depth_db
                (numbers.motion-depth-real b s' t' f')) h.motion.depth;
            phase =
                eq-sym-f binary32 a.motion.phase b.motion.phase
                (numbers.phase-number a s t f) (numbers.phase-number b s' t' f') h.motion.phase;
            size =
                eq-sym-f binary32 a.motion.size_octaves b.motion.size_octaves
                (numbers.motion-size-number a s t f) (numbers.motion-size-number b s' t' f')
                h.motion.size;
          };
    }

module _ (a b : Call) (fa : F32Call a) (fb : F32Call b) (c : Comparable (whole a) (whole b)) where
  entries-turned : SameEntries b.table a.table
  entries-turned i l h =
      let e = same-lengths a b c.a-accepted c.b-accepted fa fb c.settings.size in
      let k : i < length a.table = omega arith in
      eq-sym-f binary32 (get_or a.table i nan) (get_or b.table i nan)
      (entry-number a c.a-accepted fa i l k) (entry-number b c.b-accepted fb i l h)
      (c.table i l k)

  pub turned : Comparable (whole b) (whole a)
  turned =
      record {
        a-accepted = c.b-accepted;
        b-accepted = c.a-accepted;
        settings =
            settings-turned a.config b.config (size-accepted a c.a-accepted)
            (size-accepted b c.b-accepted) (settings-accepted a c.a-accepted)
            (settings-accepted b c.b-accepted)
            fa.settings-f32 fb.settings-f32 c.settings;
        table = entries-turned;
      }
