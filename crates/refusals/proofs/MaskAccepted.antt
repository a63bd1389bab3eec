-- What is known of a scene that a mask builder accepts: every test before 'done' was passed.
-- Assumes nothing.
use mathlib.Core.Path.{◌≡◌, refl, sym, subst}
use mathlib.Core.Bool.{Bool, true, false, cond, not, ◌&&◌, ◌||◌}
use mathlib.Core.List.{List}
use Prim.Native.Nat.{ℕ, ◌≤◌, ◌<◌}
use native.Mathlib.Nat.{lt_of_lt_of_le, le_trans}
use native.Mathlib.Omega.{arith}
use lib.Dec.{T, eqb, ltb, nltb→le, eqb→eq}
use lib.Ieee.{Float, nan}
use lib.Ieee.Fits.{and_l, and_r}
use lib.ListN.{length, get_or, take, length-take}
use lib.Pow.{pow_mono}
use Rattle.lists.proofs.Folds.{bad-before}
use Rattle.answer.specs.Reply.{Reply, done, refused}
use Rattle.limits.specs.Limits as limits
use Rattle.limits.proofs.Sizes.{size-power}
use Rattle.scene.specs.declared.MaskVoice.{MaskVoice}
use Rattle.scene.specs.declared.MaskConfig.{MaskConfig}
use Rattle.scene.specs.Accepted.{no_voice, size_accepted, settings_accepted, voice_accepted, first_voice_outside}
use Rattle.limits.specs.Lengths.{manual_mask_points}
use Rattle.limits.specs.Lengths.{most_voices, midi_notes}
use Rattle.refusals.specs.Masks.{bins, entry_accepted, first, settings_reply, voices_reply, table_reply, levels_reply, first_entry_outside, mask_reply, voices_mask_reply, tabled_mask_reply, stereo_reply}

-- a reply that is no refusal
abbrev pub Done : Reply → Type 0
Done (done values) = Unit
Done (refused number place) = ⊥

pub is-done : (a : Reply) {values : List Float} → a ≡ done values → Done a
is-done a e = subst Done (sym e) tt

-- both of two replies are done where their first refusal is none
pub both-done : (a b : Reply) → Done (first a b) → Done a × Done b
both-done (done values) b d = (tt, d)
both-done (refused number place) b d = absurd d

-- a test was passed, and what follows is done
past : (b : Bool) (number place : ℕ) (x : Reply) → Done (cond b (refused number place) x) → (b ≡ false) × Done x
past true number place x d = absurd d
past false number place x d = (refl, d)

held : (b : Bool) → not b ≡ false → T b
held true e = tt
held false e = subst T e tt

not-below : (m n : ℕ) → ltb m n ≡ false → n ≤ m
not-below m n e = nltb→le m n (subst (λ (b : Bool). T (not b)) (sym e) tt)

pub settings-done : (config : MaskConfig) → Done (settings_reply config) → T (size_accepted config) × T (settings_accepted config)
unfolding settings_reply
settings-done config d =
    let p = past (not (size_accepted config)) 1 0 _ d in
    let q = past (not (settings_accepted config)) 2 0 _ p.1 in
    (held (size_accepted config) p.0, held (settings_accepted config) q.0)

pub voices-done : (voices : List MaskVoice) (count : ℕ) (lengths : Bool) → Done (voices_reply voices count lengths)
    → (count ≤ most_voices) × T lengths × (count ≤ first_voice_outside voices count)
unfolding voices_reply
voices-done voices count lengths d =
    let p = past (ltb most_voices count) 3 0 _ d in
    let q = past (not lengths) 4 0 _ p.1 in
    let r = past (ltb (first_voice_outside voices count) count) 5 (first_voice_outside voices count) _ q.1 in
    (not-below most_voices count p.0, held lengths q.0, not-below (first_voice_outside voices count) count r.0)

pub table_done : (table : List Float) → Done (table_reply table) → length table ≤ first_entry_outside table
unfolding table_reply
table_done table d = not-below (first_entry_outside table) (length table) (past (ltb (first_entry_outside table) (length table)) 6 (first_entry_outside table) _ d).0

-- each voice that counts, and each table entry from 1 on, is within its limits
pub voice-done : (voices : List MaskVoice) (count : ℕ) (lengths : Bool) → Done (voices_reply voices count lengths) → (i : ℕ) → i < length (take count voices)
    → T (voice_accepted (get_or (take count voices) i no_voice))
voice-done voices count lengths d i h =
    bad-before no_voice (λ index voice. voice_accepted voice) (take count voices) i (lt_of_lt_of_le h (le_trans few (voices-done voices count lengths d).2))
  where
    few : length (take count voices) ≤ count
    few = rw (length-take count voices) (omega arith)

pub entry_done : (table : List Float) → Done (table_reply table) → (i : ℕ) → 0 < i → i < length table → T (limits.table_entry (get_or table i nan))
entry_done table d i p h = past-0 (eqb i 0) (eqb→eq i 0) (bad-before nan entry_accepted table i (lt_of_lt_of_le h (table_done table d)))
  where
    past-0 : (b : Bool) → (T b → i ≡ 0) → T (b || limits.table_entry (get_or table i nan)) → T (limits.table_entry (get_or table i nan))
    past-0 true e t = absurd (let z : i ≡ 0 = e tt in omega (arith, p))
    past-0 false e t = t

pub lengths-done : (levels : List Float) (lengths : Bool) → Done (levels_reply levels lengths) → T lengths
unfolding levels_reply
lengths-done levels lengths d = held lengths (past (not lengths) 4 0 _ d).0

-- an accepted size is at most 16,384
pub size-most : (config : MaskConfig) → T (size_accepted config) → config.fft_size ≤ 16384
unfolding size_accepted
size-most config t =
    let n = config.fft_size in
    let p = size-power n (and_l (limits.size n) (limits.rate config.sample_rate) t) in
    rw p.is (pow_mono {i = p.exponent} {j = 14} (omega (arith, p.below)))

-- ---- what the core needs of an accepted call: the lengths, at most 128 voices, and the size

module _ (curve : List Float) (config : MaskConfig) where
  abbrev Common : Type 0
  Common = (length curve ≡ manual_mask_points) × (config.fft_size ≤ 16384)

  pub mask-accepted : (n : ℕ) (levels : List Float) → Done (mask_reply n curve levels config) → Common × (length levels ≡ midi_notes) × (n ≡ bins config)
  unfolding mask_reply
  mask-accepted n levels d =
      let p = both-done (settings_reply config) (levels_reply levels (eqb n (bins config) && (eqb (length curve) manual_mask_points && eqb (length levels) midi_notes))) d in
      let t = lengths-done levels _ p.1 in
      let u = and_r (eqb n (bins config)) (eqb (length curve) manual_mask_points && eqb (length levels) midi_notes) t in (
        (eqb→eq _ _ (and_l (eqb (length curve) manual_mask_points) (eqb (length levels) midi_notes) u), size-most config (settings-done config p.0).0),
        eqb→eq _ _ (and_r (eqb (length curve) manual_mask_points) (eqb (length levels) midi_notes) u),
        eqb→eq _ _ (and_l (eqb n (bins config)) (eqb (length curve) manual_mask_points && eqb (length levels) midi_notes) t),
      )

  module _ (voices : List MaskVoice) (count : ℕ) where
    pub voices-mask-accepted : (n : ℕ) → Done (voices_mask_reply n curve voices count config) → Common × (count ≤ most_voices) × (n ≡ bins config)
    unfolding voices_mask_reply
    voices-mask-accepted n d =
        let p = both-done (settings_reply config) (voices_reply voices count (eqb n (bins config) && eqb (length curve) manual_mask_points)) d in
        let v = voices-done voices count _ p.1 in (
          (eqb→eq _ _ (and_r (eqb n (bins config)) (eqb (length curve) manual_mask_points) v.1), size-most config (settings-done config p.0).0),
          v.0,
          eqb→eq _ _ (and_l (eqb n (bins config)) (eqb (length curve) manual_mask_points) v.1),
        )

    module _ (table : List Float) where
      -- the curve's and the table's lengths
      abbrev given : Bool
      given = eqb (length curve) manual_mask_points && eqb (length table) (bins config)

      tabled : (outputs : Bool) → Done (first (settings_reply config) (first (voices_reply voices count (outputs && given)) (table_reply table)))
          → Common × (count ≤ most_voices) × (length table ≡ bins config) × T outputs
      tabled outputs d =
          let p = both-done (settings_reply config) (first (voices_reply voices count (outputs && given)) (table_reply table)) d in
          let q = both-done (voices_reply voices count (outputs && given)) (table_reply table) p.1 in
          let v = voices-done voices count _ q.0 in
          let g = and_r outputs given v.1 in (
            (eqb→eq _ _ (and_l (eqb (length curve) manual_mask_points) (eqb (length table) (bins config)) g), size-most config (settings-done config p.0).0),
            v.0,
            eqb→eq _ _ (and_r (eqb (length curve) manual_mask_points) (eqb (length table) (bins config)) g),
            and_l outputs given v.1,
          )

      pub tabled-mask-accepted : (n : ℕ) → Done (tabled_mask_reply n curve voices count config table) → Common × (count ≤ most_voices) × (length table ≡ bins config) × (n ≡ bins config)
      unfolding tabled_mask_reply
      tabled-mask-accepted n d = let a = tabled (eqb n (bins config)) d in (a.0, a.1, a.2, eqb→eq _ _ a.3)

      pub stereo-accepted : (m n : ℕ) → Done (stereo_reply m n curve voices count config table)
          → Common × (count ≤ most_voices) × (length table ≡ bins config) × (m ≡ bins config) × (n ≡ bins config)
      unfolding stereo_reply
      stereo-accepted m n d =
          let a = tabled (eqb m (bins config) && eqb n (bins config)) d in
          (a.0, a.1, a.2, eqb→eq _ _ (and_l (eqb m (bins config)) (eqb n (bins config)) a.3), eqb→eq _ _ (and_r (eqb m (bins config)) (eqb n (bins config)) a.3))

      pub stereo-settings : (m n : ℕ) → Done (stereo_reply m n curve voices count config table) → T (size_accepted config) × T (settings_accepted config)
      unfolding stereo_reply
      stereo-settings m n d = settings-done config (both-done (settings_reply config) _ d).0
