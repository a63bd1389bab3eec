-- Silence from the far side, of what two calls leave in lent slices: where both are done the slices
-- hold the masks of the two calls. Assumes nothing.
use mathlib.Core.List.{List}
use lib.Ieee.{Float}
use Rattle.answer.specs.Reply.{Reply}
use Rattle.lobes.specs.Pan.{Side}
use Rattle.chord_law.specs.Calls.{Call, F32Call, whole, whole_with}
use Rattle.chord_law.proofs.TwoCalls.{Left, left_is, right_is}
use Rattle.far_side_law.specs.FarSide.{SameScene, EqualScene, FarSideSilent}
use Rattle.far_side_law.proofs.Law.{far-side-law}

module _ (a b : Call) where
  -- the premises do not speak of masks
  same-scene :
      {side : Side} {l r l' r' : List Float}
      → SameScene side (whole_with a l r) (whole_with b l' r') → SameScene side (whole a) (whole b)
  same-scene h =
      record {
        a-accepted = h.a-accepted;
        b-accepted = h.b-accepted;
        curve = h.curve;
        table = h.table;
        settings = h.settings;
        voices = h.voices;
      }

  equal-scene :
      {side : Side} {l r l' r' : List Float}
      → EqualScene side (whole_with a l r) (whole_with b l' r') → EqualScene side (whole a) (whole b)
  equal-scene h =
      record {
        a-accepted = h.a-accepted;
        b-accepted = h.b-accepted;
        curve = h.curve;
        table = h.table;
        settings = h.settings;
        voices = h.voices;
      }

  pub far-side-silent :
      {ra rb : Reply} {al ar bl br : List Float} → F32Call a → F32Call b → Left a ra al ar
      → Left b rb bl br → FarSideSilent (whole_with a al ar) (whole_with b bl br)
  far-side-silent fa fb x y =
      let law = far-side-law a b fa fb in
      record {
        left-same =
            λ h. rw (left_is x h.a-accepted, left_is y h.b-accepted)
            (law.left-same (same-scene h));
        right-same =
            λ h. rw (right_is x h.a-accepted, right_is y h.b-accepted)
            (law.right-same (same-scene h));
        left-equal =
            λ h. rw (left_is x h.a-accepted, left_is y h.b-accepted)
            (law.left-equal (equal-scene h));
        right-equal =
            λ h. rw (right_is x h.a-accepted, right_is y h.b-accepted)
            (law.right-equal (equal-scene h));
      }
