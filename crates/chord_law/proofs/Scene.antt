-- Two whole calls that meet every premise: a chord, and the same chord with one voice more, at
-- 48,000 Hz and size 64 with a table of zeros, on any two curves of which the chord's is nowhere
-- above the other. So the law is not empty: no bin of the chord's masks is above that of the larger
-- chord. The curves may be one curve, whatever it holds, with points erased in both; or points may
-- be erased in the chord's alone. Assumes nothing.
use mathlib.Core.Path.{◌≡◌, refl, sym, ◌∙◌, subst}
use mathlib.Core.Bool.{true, not}
use mathlib.Core.List.{List, [], ◌∷◌}
use Prim.Native.Nat.{ℕ, zero, suc, ◌<◌}
use native.Mathlib.Omega.{arith}
use lib.Dec.{T}
use lib.Count.{count_trailing_zeros}
use lib.ListN.{length, get_or, set, length-set}
use lib.Ieee.{Float, nan, inf, fin, binary32, fits, is_nan, le, lt, eq, odd, of_bits, of_fields}
use Rattle.lists.specs.Folds.{first_bad_from}
use Rattle.lists.specs.Maps.{tab_from, tabulate, length-tab, get_d_tabulate}
use Rattle.lists.specs.Totals.{All, all-at}
use Rattle.float32.specs.Order.{within, finite}
use Rattle.float32.specs.Remainder as remainder
use Rattle.limits.specs.Lengths.{manual_mask_points}
use Rattle.scene.specs.declared.MaskVoice.{MaskVoice}
use Rattle.scene.specs.declared.Pitch.{Pitch}
use Rattle.scene.specs.declared.MaskConfig.{MaskConfig}
use Rattle.scene.specs.declared.MotionShape.TheVariants.{Saw}
use Rattle.scene.specs.Accepted.{no_voice, size_accepted, settings_accepted}
use Rattle.scene.specs.Accepted.{motion_accepted, pitch_accepted, voice_accepted}
use Rattle.float32.specs.Remainder.{half}
use Rattle.refusals.specs.Masks.{settings_reply, voices_reply, table_reply, stereo_reply}
use Rattle.scene.specs.F32.{F32Pitch, F32Voice, F32Settings, F32List}
use Rattle.chord_law.specs.Calls.{Call, F32Call, Accepted, whole}
use Rattle.chord_law.specs.Settings.{SameSettings, SameEntries}
use Rattle.chord_law.specs.Curves.{above, NowhereAbove}
use Rattle.chord_law.specs.Masks.{MasksNotAbove}
use Rattle.chord_law.specs.Premises.{Comparable}
use Rattle.chord_law.proofs.CurvePoints.{not-above-itself, level-curve}
use Rattle.chord_law.proofs.Law.{masks-not-above}
use Rattle.chord_law.proofs.Instances.{voice, C, E, G, a_by_hertz, chord, with_one_more}
use Rattle.chord_law.proofs.Instances.{one_more, placed-f32}

-- 48,000 Hz, size 64, a depth of 96 dB, widths of 100 cents, 8 partials that fall by 6 dB an
-- octave, and a saw of 12 dB, an octave long
abbrev pub config : MaskConfig
config =
    record {
      sample_rate = of_bits binary32 0x473b_8000;
      fft_size = 64;
      note_depth_db = of_bits binary32 0x42c0_0000;
      note_layer_enabled = true;
      width_cents = of_bits binary32 0x42c8_0000;
      partials = 8;
      harmonic_rolloff_db_per_octave = of_bits binary32 0x40c0_0000;
      motion =
          record {
            shape = Saw;
            depth_db = of_bits binary32 0x4140_0000;
            phase = remainder.zero;
            size_octaves = remainder.one;
          };
    }

abbrev pub table : List Float
table = tabulate 33 (λ k. remainder.zero)

settings-f32 : F32Settings config
unfolding of_bits of_fields odd count_trailing_zeros fits
settings-f32 =
    record {
      rate = tt;
      note-depth = tt;
      width = tt;
      rolloff = tt;
      motion-depth = tt;
      phase = tt;
      motion-size = tt;
    }

pub settings-same : SameSettings config config
unfolding of_bits of_fields odd count_trailing_zeros eq
settings-same =
    record {
      rate = tt;
      size = refl;
      note-depth = tt;
      note-layer = refl;
      width = tt;
      partials = refl;
      rolloff = tt;
      motion = record { shape = refl; depth = tt; phase = tt; size = tt };
    }

zero-f32 : T (fits binary32 remainder.zero) × T (eq remainder.zero remainder.zero)
unfolding of_bits fits eq
zero-f32 = (tt, tt)

entry-is : (i : ℕ) → i < length table → get_or table i nan ≡ remainder.zero
entry-is i h =
    get_d_tabulate (λ k. remainder.zero) 33 i nan
    (omega (arith, length-tab (λ k. remainder.zero) 0 33))

pub entries-same : SameEntries table table
entries-same i l h = subst (λ (x : Float). T (eq x x)) (sym (entry-is i h)) zero-f32.1

voice-f32 : (pitch : Pitch) → F32Pitch pitch → F32Voice (voice pitch half)
voice-f32 pitch f = placed-f32 pitch remainder.zero f zero-f32.0

pitches-f32 : All F32Pitch (C.pitch ∷ E.pitch ∷ a_by_hertz.pitch ∷ G.pitch ∷ [])
unfolding of_bits of_fields odd count_trailing_zeros fits
pitches-f32 = (tt, (tt, (tt, (tt, tt))))

chord-f32 : All F32Voice chord
chord-f32 =
    let p = pitches-f32 in (
      voice-f32 C.pitch p.0,
      (voice-f32 E.pitch p.1.0, (voice-f32 G.pitch p.1.1.1.0, tt)),
    )

larger-f32 : All F32Voice with_one_more
larger-f32 =
    let p = pitches-f32 in (
      chord-f32.0,
      (
        chord-f32.1.0,
        (voice-f32 a_by_hertz.pitch p.1.1.0, (chord-f32.1.1.0, tt)),
      ),
    )

abbrev pub call : List Float → List MaskVoice → Call
call curve voices =
    record {
      left-length = 33;
      right-length = 33;
      curve = curve;
      voices = voices;
      count = length voices;
      config = config;
      table = table;
    }

module _ (curve : List Float) (long : length curve ≡ manual_mask_points) (f32 : F32List curve) where
  pub chord-accepted : Accepted (whole (call curve chord))
  unfolding stereo_reply settings_reply voices_reply table_reply size_accepted settings_accepted
      motion_accepted pitch_accepted voice_accepted first_bad_from tab_from within finite le lt eq of_bits
      of_fields odd count_trailing_zeros
  chord-accepted = rw long refl

  larger-accepted : Accepted (whole (call curve with_one_more))
  unfolding stereo_reply settings_reply voices_reply table_reply size_accepted settings_accepted
      motion_accepted pitch_accepted voice_accepted first_bad_from tab_from within finite le lt eq of_bits
      of_fields odd count_trailing_zeros
  larger-accepted = rw long refl

  pub call-f32 : (voices : List MaskVoice) → All F32Voice voices → F32Call (call curve voices)
  call-f32 voices f =
      record {
        curve-f32 = f32;
        voices-f32 = λ i h. all-at F32Voice voices i no_voice f h;
        settings-f32 = settings-f32;
        table-f32 =
            λ i h. subst (λ (x : Float). T (fits binary32 x)) (sym (entry-is i h)) zero-f32.0;
      }

-- ---- the law on two curves
module _ (a b : List Float) (a-long : length a ≡ manual_mask_points)
    (b-long : length b ≡ manual_mask_points) (fa : F32List a) (fb : F32List b) where
  comparable : Comparable (whole (call a chord)) (whole (call b with_one_more))
  comparable =
      record {
        a-accepted = chord-accepted a a-long fa;
        b-accepted = larger-accepted b b-long fb;
        settings = settings-same;
        table = entries-same;
      }

  pub the-larger-chord-is-above :
      NowhereAbove a b → MasksNotAbove (whole (call a chord)) (whole (call b with_one_more))
  the-larger-chord-is-above h =
      masks-not-above (call a chord) (call b with_one_more) (call-f32 a a-long fa chord chord-f32)
      (call-f32 b b-long fb with_one_more larger-f32) comparable
      (record { matched = one_more; curve = h })

-- ---- a point erased
abbrev pub erased : List Float → ℕ → List Float
erased curve place = set curve place nan

-- what holds of NaN and of the curve's own point holds of the point of the erased curve
at_each :
    (P : Float → Type 0) (curve : List Float) (place i : ℕ) → P nan → P (get_or curve i nan)
    → P (get_or (erased curve place) i nan)
at_each P [] place i p q = p
at_each P (x ∷ xs) zero zero p q = p
at_each P (x ∷ xs) zero (suc i) p q = q
at_each P (x ∷ xs) (suc place) zero p q = q
at_each P (x ∷ xs) (suc place) (suc i) p q = at_each P xs place i p q

nan-not-above : (y : Float) → T (not (above nan y))
unfolding is_nan lt
nan-not-above nan = tt
nan-not-above (inf s) = tt
nan-not-above (fin s m e) = tt

nan-f32 : T (fits binary32 nan)
unfolding fits
nan-f32 = tt

module _ (curve : List Float) (long : length curve ≡ manual_mask_points) (f32 : F32List curve)
    (place : ℕ) where
  abbrev without : List Float
  without = erased curve place

  without-long : length without ≡ manual_mask_points
  without-long = length-set curve place nan ∙ long

  without-f32 : F32List without
  without-f32 i h =
      at_each (λ (x : Float). T (fits binary32 x)) curve place i nan-f32
      (f32 i (omega (arith, length-set curve place nan)))

  pub erased-in-both :
      MasksNotAbove (whole (call without chord)) (whole (call without with_one_more))
  erased-in-both =
      the-larger-chord-is-above without without without-long without-long without-f32 without-f32
      (level-curve without without-long without-f32)

  pub erased-in-the-lower :
      MasksNotAbove (whole (call without chord)) (whole (call curve with_one_more))
  erased-in-the-lower =
      the-larger-chord-is-above without curve without-long long without-f32 f32 beneath
    where
      beneath : NowhereAbove without curve
      beneath i h =
          at_each (λ (x : Float). T (not (above x (get_or curve i nan)))) curve place i
          (nan-not-above (get_or curve i nan))
          (not-above-itself (get_or curve i nan) (f32 i (omega (arith, long))))
