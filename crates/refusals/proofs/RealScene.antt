-- What is known of the numbers of a scene that a mask builder goes on to build: the voices that
-- count are real, the settings are real, and the table's entries from 1 on are finite. The tests
-- were passed, and the types of the parameters say that each number is an f32. Assumes nothing.
use mathlib.Core.Path.{◌≡◌, sym, subst}
use mathlib.Core.Bool.{Bool, ◌&&◌}
use mathlib.Core.List.{List}
use Prim.Native.Nat.{ℕ, ◌<◌}
use native.Mathlib.Omega.{arith}
use lib.Dec.{T, eqb, eqb→eq}
use lib.ListN.{length, get_or, take, length-take}
use lib.Seq.{get_or-take}
use lib.Count.{count_trailing_zeros}
use lib.Ieee.{Float, nan, binary32, fits, of_bits, of_fields, odd}
use lib.Ieee.Fits.{and_r}
use Rattle.lists.specs.Totals.{All}
use Rattle.lists.specs.Entries.{all-places}
use Rattle.float_laws.specs.Units.{number, real}
use Rattle.float32.proofs.Limits.{within-number, within_real}
use Rattle.answer.specs.Reply.{Reply}
use Rattle.limits.specs.Limits as limits
use Rattle.limits.specs.Limits.{least_table_entry, most_table_entry}
use Rattle.limits.specs.Lengths.{manual_mask_points}
use Rattle.scene.specs.declared.MaskVoice.{MaskVoice}
use Rattle.scene.specs.declared.MaskConfig.{MaskConfig}
use Rattle.scene.specs.Accepted.{no_voice}
use Rattle.scene.specs.Voices.{RealVoice}
use Rattle.scene.specs.F32.{F32Voice, F32Settings, F32Voices, F32List}
use Rattle.scene.proofs.Voices.{accepted-real}
use Rattle.scene.proofs.SettingsNumbers as numbers
use Rattle.scene.proofs.SettingsNumbers.{RealSettings}
use Rattle.refusals.specs.Masks.{bins, first, settings_reply, voices_reply, table_reply, voices_mask_reply, tabled_mask_reply, stereo_reply}
use Rattle.refusals.proofs.MaskAccepted.{Done, both-done, settings-done, voices-done, voice-done, entry_done}

pub record RealScene (voices : List MaskVoice) (count : ℕ) (config : MaskConfig) : Type 0 where
  pub voices-real : All RealVoice (take count voices)
  pub settings-real : RealSettings config

pub record RealTable (config : MaskConfig) (table : List Float) : Type 0 where
  pub entries : length table ≡ bins config
  pub entry-number : (i : ℕ) → 0 < i → i < length table → T (number binary32 (get_or table i nan))
  pub entry-real : (i : ℕ) → 0 < i → i < length table → T (real binary32 (get_or table i nan))

entry-ends : T (real binary32 least_table_entry) × T (real binary32 most_table_entry)
unfolding of_bits of_fields odd count_trailing_zeros fits
entry-ends = (tt, tt)

entry-finite : (x : Float) → T (limits.table_entry x) → T (fits binary32 x) → T (real binary32 x)
entry-finite x h f = within_real least_table_entry most_table_entry x h binary32 f entry-ends.0 entry-ends.1

module _ (curve : List Float) (voices : List MaskVoice) (count : ℕ) (config : MaskConfig) where
  -- ---- from the groups of tests
  voice-real : (lengths : Bool) → Done (voices_reply voices count lengths) → F32Voices voices → (i : ℕ) → i < length (take count voices) → RealVoice (get_or (take count voices) i no_voice)
  voice-real lengths d f i h =
      let l = length-take count voices in
      let v = subst F32Voice (sym (get_or-take count voices i no_voice (omega arith))) (f i (omega arith)) in
      accepted-real (get_or (take count voices) i no_voice) (voice-done voices count lengths d i h) v

  scene : (lengths : Bool) → Done (settings_reply config) → Done (voices_reply voices count lengths) → F32Voices voices → F32Settings config → RealScene voices count config
  scene lengths d e f g =
      let s = settings-done config d in
      record {
        voices-real = all-places RealVoice no_voice (take count voices) (voice-real lengths e f);
        settings-real = numbers.real-settings config s.0 s.1 g;
      }

  -- ---- the mono mask without a table
  pub voices-mask-scene : (n : ℕ) → Done (voices_mask_reply n curve voices count config) → F32Voices voices → F32Settings config → RealScene voices count config
  unfolding voices_mask_reply
  voices-mask-scene n d f g =
      let lengths = eqb n (bins config) && eqb (length curve) manual_mask_points in
      let p = both-done (settings_reply config) (voices_reply voices count lengths) d in
      scene lengths p.0 p.1 f g

  -- ---- with a table
  module _ (table : List Float) where
    abbrev given : Bool
    given = eqb (length curve) manual_mask_points && eqb (length table) (bins config)

    abbrev tabled : Bool → Reply
    tabled outputs = first (settings_reply config) (first (voices_reply voices count (outputs && given)) (table_reply table))

    groups : (outputs : Bool) → Done (tabled outputs) → Done (settings_reply config) × Done (voices_reply voices count (outputs && given)) × Done (table_reply table)
    groups outputs d =
        let p = both-done (settings_reply config) (first (voices_reply voices count (outputs && given)) (table_reply table)) d in
        let q = both-done (voices_reply voices count (outputs && given)) (table_reply table) p.1 in
        (p.0, q.0, q.1)

    tabled-scene : (outputs : Bool) → Done (tabled outputs) → F32Voices voices → F32Settings config → RealScene voices count config
    tabled-scene outputs d f g = let p = groups outputs d in scene (outputs && given) p.0 p.1 f g

    tabled-entries : (outputs : Bool) → Done (tabled outputs) → F32List table → RealTable config table
    tabled-entries outputs d f =
        let p = groups outputs d in
        let g = and_r outputs given (voices-done voices count (outputs && given) p.1).1 in
        let within = entry_done table p.2 in
        record {
          entries = eqb→eq (length table) (bins config) (and_r (eqb (length curve) manual_mask_points) (eqb (length table) (bins config)) g);
          entry-real = λ i l h. entry-finite (get_or table i nan) (within i l h) (f i h);
          entry-number = λ i l h. within-number least_table_entry most_table_entry (get_or table i nan) (within i l h) binary32 (f i h);
        }

    pub tabled-mask-scene : (n : ℕ) → Done (tabled_mask_reply n curve voices count config table) → F32Voices voices → F32Settings config → RealScene voices count config
    unfolding tabled_mask_reply
    tabled-mask-scene n d = tabled-scene (eqb n (bins config)) d

    pub tabled-mask-table : (n : ℕ) → Done (tabled_mask_reply n curve voices count config table) → F32List table → RealTable config table
    unfolding tabled_mask_reply
    tabled-mask-table n d = tabled-entries (eqb n (bins config)) d

    pub stereo-scene : (m n : ℕ) → Done (stereo_reply m n curve voices count config table) → F32Voices voices → F32Settings config → RealScene voices count config
    unfolding stereo_reply
    stereo-scene m n d = tabled-scene (eqb m (bins config) && eqb n (bins config)) d

    pub stereo-table : (m n : ℕ) → Done (stereo_reply m n curve voices count config table) → F32List table → RealTable config table
    unfolding stereo_reply
    stereo-table m n d = tabled-entries (eqb m (bins config) && eqb n (bins config)) d
