-- The chord law of two calls on lent slices of voice records: the law of the same calls with the
-- records as the voices of an array and their number as the count, of which all count. Assumes
-- nothing.
use mathlib.Core.Path.{◌≡◌, ap, subst}
use mathlib.Core.List.{List}
use lib.ListN.{length}
use lib.Seq.{take-length}
use Rattle.scene.specs.declared.MaskVoice.{MaskVoice}
use Rattle.lobes.specs.Pan.{left, right}
use Rattle.lobes.specs.Distance.{lent}
use Rattle.mask_builder.specs.Mask.{mask_of}
use Rattle.chord_law.specs.Calls.{WholeCall, Call, call_of, whole}
use Rattle.chord_law.specs.Calls.{LentCall, whole_lent, lent_reply_to}
use Rattle.chord_law.specs.Law.{LawHolds, LentChordLaw}
use Rattle.chord_law.proofs.Law.{chord-law}

abbrev pub in_array : LentCall → Call
in_array call =
    call_of call.left-length call.right-length call.curve call.records
    (length call.records) call.config call.table

-- the whole call, by the voices that count
abbrev hearing : LentCall → List MaskVoice → WholeCall
hearing call voices =
    record {
      curve = call.curve;
      voices = voices;
      config = call.config;
      table = call.table;
      reply = lent_reply_to call;
      left = mask_of call.curve call.config (lent call.table) left voices;
      right = mask_of call.curve call.config (lent call.table) right voices;
    }

pub all-count : (call : LentCall) → whole (in_array call) ≡ whole_lent call
all-count call = ap (hearing call) (take-length call.records)

pub lent-chord-law : LentChordLaw
lent-chord-law a b fa fb =
    subst (λ (x : WholeCall). LawHolds x (whole_lent b)) (all-count a)
    (subst (λ (y : WholeCall). LawHolds (whole (in_array a)) y) (all-count b)
    (chord-law (in_array a) (in_array b) fa fb))
