-- `three_at` meets its contract. Assumes nothing.
use Rattle.std.proofs.Common.{◌+◌, ◌∙◌, arith}
use Rattle.record_words.proofs.Numbers.{number-three}
use Rattle.record_words.proofs.three_at.Goals as goal

pub returns : goal.returns
returns c =
    let at = c.args.at in
    let byte = c.type_inv.bytes in (
      c.from_be_bytes.ensures ∙ number-three c.args.bytes.now at,
      omega (arith, c.from_be_bytes.ensures, (byte at).fits, (byte (at + 1)).fits, (byte (at + 2)).fits),
    )
