-- `put_four` meets its contract. Assumes nothing.
use Rattle.std.proofs.Common.{◌∙◌, ap, arith, length}
use Rattle.lists.specs.Stores.{stored}
use Rattle.lists.specs.Bytes.{length-bytes}
use Rattle.record_words.proofs.Numbers.{four_bytes, stored_part}
use Rattle.record_words.proofs.put_four.Goals as goal

pub returns : goal.returns
returns c =
    let new = c.copy_from_slice.ensures.after ∙ c.to_be_bytes.ensures ∙ four_bytes c.args.n in
    stored_part c.args.bytes.now _ c.args.at 4 (omega arith) (ap length new ∙ length-bytes 4 c.args.n)
    ∙ ap (stored c.args.bytes.now c.args.at) new
