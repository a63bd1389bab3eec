-- `put_three` meets its contract. Assumes nothing.
use Rattle.std.proofs.Common.{◌∙◌, ap, arith, length, take, drop}
use Rattle.lists.specs.Stores.{stored}
use Rattle.lists.specs.Bytes.{length-bytes}
use Rattle.record_words.proofs.Numbers.{three-bytes, stored_part}
use Rattle.record_words.proofs.put_three.Goals as goal

pub returns : goal.returns
returns c =
    let new = c.copy_from_slice.ensures.after ∙ ap (λ word. take 3 (drop 1 word)) c.to_be_bytes.ensures ∙ three-bytes c.args.n in
    stored_part c.args.bytes.now _ c.args.at 3 (omega arith) (ap length new ∙ length-bytes 3 c.args.n)
    ∙ ap (stored c.args.bytes.now c.args.at) new
