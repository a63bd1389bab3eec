-- What the loops over a record's voices keep, and what their steps store, read and test. Assumes
-- nothing.
use mathlib.Core.Path.{◌≡◌, refl, sym, ap, ◌∙◌, subst}
use mathlib.Core.Bool.{true, false}
use mathlib.Core.List.{List, [], ◌∷◌}
use Prim.Native.Nat.{ℕ, suc, ◌+◌, ◌*◌, ◌-◌, ◌≤◌, ◌<◌}
use native.Mathlib.Nat.{add-zero}
use native.Mathlib.Omega.{arith}
use lib.Ieee.{Float, nan}
use lib.ListN.{length, get_or, set, take, drop}
use lib.Seq.{drop-drop, get_or-drop, get_or-take, length-take-le}
use Rattle.lists.specs.Totals.{All, all-at}
use Rattle.lists.specs.Stores.{stored, stored-append, stored_one}
use Rattle.lists.specs.Pieces.{piece-at-place}
use Rattle.scene.specs.declared.MaskVoice.{MaskVoice}
use Rattle.scene.specs.Accepted.{no_voice}
use Rattle.scene.specs.Gathered.{gathered_to}
use Rattle.scene.proofs.Gathered.{gathered-more}
use Rattle.record_words.specs.Floats.{floats_bytes, float_at, floats_of}
use Rattle.record_words.proofs.FloatLists.{float-at-place}
use Rattle.record_voices.specs.Voices.{pitch_byte, NoteFits, voice_floats, voice_bytes}
use Rattle.record_voices.specs.Voices.{pitch_in, voice_of, voices_of, pitch_allowed}
use Rattle.record_voices.specs.Voices.{pitches_allowed}
use Rattle.record_voices.proofs.Voices.{voices-counted}

-- ---- writing
-- a voice's byte, and its floats behind it
pub voice-stored :
    (old : List ℕ) (at byte : ℕ) (voice : MaskVoice) (floats : List Float)
    → byte ≡ pitch_byte voice.pitch → floats ≡ voice_floats voice
    → stored (set old at byte) (at + 1) (floats_bytes floats) ≡ stored old at (voice_bytes voice)
unfolding voice_bytes
voice-stored old at byte voice floats e f =
    let b = pitch_byte voice.pitch in
    rw (e, f)
    (ap (λ (l : List ℕ). stored l (at + 1) (floats_bytes (voice_floats voice))) (stored_one old at b)
    ∙ stored-append old at (at + 1) (b ∷ []) (floats_bytes (voice_floats voice)) refl)

pub note-fits :
    (voices : List MaskVoice) (n i : ℕ) → i < n → n ≤ length voices → All NoteFits (take n voices)
    → NoteFits (get_or voices i no_voice)
note-fits voices n i h l a =
    subst NoteFits (get_or-take n voices i no_voice h)
    (all-at NoteFits (take n voices) i no_voice a (rw (length-take-le n voices l) h))

-- ---- reading
-- a voice by its floats, each at its place
module _ (bs : List ℕ) (at : ℕ) where
  float-there :
      (k place : ℕ) → k < 7 → at + 1 + 4 * k ≡ place
      → get_or (floats_of (drop 1 (drop at bs)) 7) k nan ≡ float_at bs place
  float-there k place h e =
      ap (λ (l : List ℕ). get_or (floats_of l 7) k nan) (drop-drop 1 at bs)
      ∙ float-at-place bs (at + 1) k 7 h ∙ ap (float_at bs) e

  byte-there : get_or (drop at bs) 0 0 ≡ get_or bs at 0
  byte-there = get_or-drop at bs 0 0 ∙ ap (λ (k : ℕ). get_or bs k 0) (add-zero at)

  pub voice-read :
      record {
        pitch = pitch_in (get_or bs at 0) (float_at bs (at + 5));
        level = float_at bs (at + 1);
        pressure = float_at bs (at + 9);
        timbre = float_at bs (at + 13);
        volume_gain = float_at bs (at + 17);
        expression_gain = float_at bs (at + 21);
        pan = float_at bs (at + 25);
      } ≡ voice_of (drop at bs)
  unfolding voice_of
  voice-read =
      rw (
        byte-there,
        float-there 0 (at + 1) (omega arith) (omega arith),
        float-there 1 (at + 5) (omega arith) (omega arith),
        float-there 2 (at + 9) (omega arith) (omega arith),
        float-there 3 (at + 13) (omega arith) (omega arith),
        float-there 4 (at + 17) (omega arith) (omega arith),
        float-there 5 (at + 21) (omega arith) (omega arith),
        float-there 6 (at + 25) (omega arith) (omega arith),
      )
      refl

-- one voice more in the array
pub gathered-voice :
    (bs : List ℕ) (at n i : ℕ) (array : List MaskVoice) (voice : MaskVoice) → i < n → n ≤ 128
    → array ≡ gathered_to i (voices_of (drop at bs) n) → voice ≡ voice_of (drop (at + 29 * i) bs)
    → set array i voice ≡ gathered_to (i + 1) (voices_of (drop at bs) n)
gathered-voice bs at n i array voice h m e f =
    let voices = voices_of (drop at bs) n in
    let there : i < length voices = rw (voices-counted (drop at bs) n) h in
    let same : voice ≡ get_or voices i no_voice =
    f ∙ ap voice_of (sym (drop-drop (29 * i) at bs))
    ∙ sym (piece-at-place voice_of 29 no_voice (drop at bs) n i h) in
    rw (e, same) (gathered-more voices i there (omega arith))

-- ---- the test of the forbidden bits
module _ (bs : List ℕ) (at i n : ℕ) (h : i < n) where
  here : get_or (drop (at + 29 * i) bs) 0 0 ≡ get_or bs (at + 29 * i) 0
  here =
      get_or-drop (at + 29 * i) bs 0 0 ∙ ap (λ (k : ℕ). get_or bs k 0) (add-zero (at + 29 * i))

  pub allowed-next :
      pitch_allowed (get_or bs (at + 29 * i) 0) ≡ true
      → pitches_allowed (drop (at + 29 * (i + 1)) bs) (n - (i + 1))
      ≡ pitches_allowed (drop (at + 29 * i) bs) (n - i)
  unfolding pitches_allowed
  allowed-next e =
      let s : n - i ≡ suc (n - (i + 1)) = omega arith in
      let d : at + 29 * i + 29 ≡ at + 29 * (i + 1) = omega arith in
      rw (s, here, e, drop-drop 29 (at + 29 * i) bs, d)

  pub allowed-not :
      pitch_allowed (get_or bs (at + 29 * i) 0) ≡ false
      → false ≡ pitches_allowed (drop (at + 29 * i) bs) (n - i)
  unfolding pitches_allowed
  allowed-not e =
      let s : n - i ≡ suc (n - (i + 1)) = omega arith in
      rw (s, here, e)

pub allowed-end : (bs : List ℕ) (i n : ℕ) → n ≤ i → true ≡ pitches_allowed bs (n - i)
unfolding pitches_allowed
allowed-end bs i n h =
    let s : n - i ≡ 0 = omega arith in
    rw s

pub allowed-start :
    (bs : List ℕ) (at n : ℕ)
    → pitches_allowed (drop (at + 29 * 0) bs) (n - 0) ≡ pitches_allowed (drop at bs) n
allowed-start bs at n =
    let s : n - 0 ≡ n = omega arith in
    let d : at + 29 * 0 ≡ at = omega arith in
    rw (s, d)
