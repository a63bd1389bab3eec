-- A voice far from a side has a balance of 0 there: its clamped pan equals the far end. So its gain
-- there is a zero. Assumes nothing.
use mathlib.Core.Path.{◌≡◌, refl, ap, ◌∙◌, subst}
use mathlib.Core.Bool.{true, false}
use lib.Dec.{T}
use lib.Count.{count_trailing_zeros}
use lib.Ieee.{Float, binary32, le, eq, fits, odd, of_bits, of_fields}
use Rattle.float_laws.specs.Units.{number, real, real-number}
use Rattle.float_laws.specs.Order as order
use Rattle.float_laws.specs.Order.{le-antisymm-f, le-refl-f}
use Rattle.float_laws.specs.Same.{Same, nought, eq-same, through}
use Rattle.float32.specs.Remainder.{zero}
use Rattle.float32.proofs.OrderAgrees.{clamp-agrees}
use Rattle.scene.specs.declared.MaskVoice.{MaskVoice}
use Rattle.scene.specs.Voices.{RealVoice}
use Rattle.lobes.specs.declared.pan.Side.TheVariants.{Mono, Left, Right}
use Rattle.lobes.specs.Pan.{Side, left, right, hard_left, hard_right, balance, pan_of}
use Rattle.lobes.specs.Pan.{expression_of, channel_gain}
use Rattle.lobes.proofs.NoteLevels.{zero_is}
use Rattle.lobes.proofs.Channels.{pan-is, channel-gain-rises}
use Rattle.openness.proofs.SilentVoices.{Nought, times_zero}
use Rattle.far_side_law.specs.Sides.{far_from}

-- ---- the clamp of a pan at or past an end equals the end
ends : T (real binary32 hard_left) × T (real binary32 hard_right) × T (le hard_left hard_right)
unfolding of_bits of_fields odd count_trailing_zeros fits le
ends = (tt, tt, tt)

module _ (x : Float) (p : T (real binary32 x)) where
  abbrev held : Float
  held = order.clamp hard_left hard_right x

  l : T (number binary32 hard_left)
  l = real-number binary32 hard_left ends.0

  r : T (number binary32 hard_right)
  r = real-number binary32 hard_right ends.1

  n : T (number binary32 x)
  n = real-number binary32 x p

  held_number : T (number binary32 held)
  held_number = order.clamp-number binary32 hard_left hard_right l r ends.2 x n

  -- an end is within the ends
  right-held : order.clamp hard_left hard_right hard_right ≡ hard_right
  right-held =
      order.clamp-within binary32 hard_left hard_right l r ends.2 hard_right r ends.2
      (le-refl-f binary32 hard_right r)

  left-held : order.clamp hard_left hard_right hard_left ≡ hard_left
  left-held =
      order.clamp-within binary32 hard_left hard_right l r ends.2 hard_left l
      (le-refl-f binary32 hard_left l) ends.2

  at_right : T (le hard_right x) → Same held hard_right
  at_right h =
      let most = order.clamp-high binary32 hard_left hard_right l r ends.2 x n in
      let rises =
      order.clamp-mono binary32 hard_left hard_right l r ends.2 hard_right x r n h in
      eq-same binary32 held hard_right held_number r
      (le-antisymm-f binary32 held hard_right held_number r most
      (subst (λ (y : Float). T (le y held)) right-held rises))

  at_left : T (le x hard_left) → Same held hard_left
  at_left h =
      let least = order.clamp-low binary32 hard_left hard_right l r ends.2 x n in
      let rises = order.clamp-mono binary32 hard_left hard_right l r ends.2 x hard_left n l h in
      eq-same binary32 held hard_left held_number l
      (le-antisymm-f binary32 held hard_left held_number l
      (subst (λ (y : Float). T (le held y)) left-held rises) least)

-- ---- the balance of a pan that equals an end
record AtEnds : Type 0 where
  left-zeros : balance left (nought false) ≡ balance left (nought true)
  left_end : balance left hard_right ≡ zero
  right-zeros : balance right (nought false) ≡ balance right (nought true)
  right_end : balance right hard_left ≡ zero

at-ends : AtEnds
unfolding balance eq of_bits of_fields odd count_trailing_zeros
at-ends =
    record { left-zeros = refl; left_end = refl; right-zeros = refl; right_end = refl }

far-balance :
    (side : Side) (voice : MaskVoice) → RealVoice voice → T (far_from side voice)
    → balance side (pan_of voice) ≡ zero
far-balance Mono voice u h = absurd h
far-balance Left voice u h =
    ap (balance left) (pan-is voice u.pan-real ∙ clamp-agrees hard_left hard_right voice.pan)
    ∙ through (balance left) at-ends.left-zeros (at_right voice.pan u.pan-real h)
    ∙ at-ends.left_end
far-balance Right voice u h =
    ap (balance right) (pan-is voice u.pan-real ∙ clamp-agrees hard_left hard_right voice.pan)
    ∙ through (balance right) at-ends.right-zeros (at_left voice.pan u.pan-real h)
    ∙ at-ends.right_end

-- ---- its gain is finite, and so a zero
gain-real :
    (side : Side) (voice : MaskVoice) → RealVoice voice → T (real binary32 (channel_gain side voice))
gain-real side voice u =
    let e = voice.expression_gain in
    let itself = le-refl-f binary32 e (real-number binary32 e u.expression-real) in
    (channel-gain-rises side voice voice u u refl itself).from.is_real

pub far-gain :
    (side : Side) (voice : MaskVoice) → RealVoice voice → T (far_from side voice)
    → Nought (channel_gain side voice)
unfolding channel_gain
far-gain side voice u h =
    times_zero (expression_of voice) (balance side (pan_of voice))
    (record { of-sign = false; is = far-balance side voice u h ∙ zero_is })
    (gain-real side voice u)
