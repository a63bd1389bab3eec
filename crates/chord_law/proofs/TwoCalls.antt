-- The chord law of what two calls leave in lent slices: where both are done the slices hold the
-- masks of the two calls. Assumes nothing.
use mathlib.Core.Path.{◌≡◌, ap, ◌∙◌}
use mathlib.Core.List.{List}
use lib.Ieee.{Float}
use Rattle.answer.specs.Reply.{Reply}
use Rattle.answer.specs.Written.{written}
use Rattle.lobes.specs.Pan.{left, right}
use Rattle.chord_law.specs.Calls.{Call, F32Call, Accepted, whole, whole_with, reply_to, mask_on}
use Rattle.chord_law.specs.Premises.{Comparable, Beneath}
use Rattle.chord_law.specs.Law.{LawHolds}
use Rattle.chord_law.proofs.Law.{chord-law}

-- what a call leaves: its answer, and its masks where it is done
pub record Left (call : Call) (reply : Reply) (left-mask right-mask : List Float) : Type 0 where
  pub left-before : List Float
  pub right-before : List Float
  pub answer : reply ≡ reply_to call
  pub left_after : left-mask ≡ written reply (mask_on left call) left-before
  pub right-after : right-mask ≡ written reply (mask_on right call) right-before

module _ {call : Call} {reply : Reply} {l r : List Float}
    (w : Left call reply l r) (d : Accepted (whole call)) where
  pub left_is : l ≡ mask_on left call
  left_is =
      w.left_after
      ∙ ap (λ (a : Reply). written a (mask_on left call) w.left-before) (w.answer ∙ d)

  pub right_is : r ≡ mask_on right call
  right_is =
      w.right-after
      ∙ ap (λ (a : Reply). written a (mask_on right call) w.right-before) (w.answer ∙ d)

pub law-holds :
    (a b : Call) {ra rb : Reply} {al ar bl br : List Float} → F32Call a → F32Call b
    → Left a ra al ar → Left b rb bl br → LawHolds (whole_with a al ar) (whole_with b bl br)
law-holds a b fa fb x y c u =
    let p = c.a-accepted in
    let q = c.b-accepted in
    rw (left_is x p, right_is x p, left_is y q, right_is y q)
    (chord-law a b fa fb (same c) (also u))
  where
    same :
        {l r l' r' : List Float} → Comparable (whole_with a l r) (whole_with b l' r')
        → Comparable (whole a) (whole b)
    same c =
        record {
          a-accepted = c.a-accepted;
          b-accepted = c.b-accepted;
          settings = c.settings;
          table = c.table;
        }

    also :
        {l r l' r' : List Float} → Beneath (whole_with a l r) (whole_with b l' r')
        → Beneath (whole a) (whole b)
    also u = record { matched = u.matched; curve = u.curve }
