-- `four_at` meets its contract. Assumes nothing.
use Rattle.std.proofs.Common.{◌∙◌}
use Rattle.record_words.proofs.Numbers.{number-four}
use Rattle.record_words.proofs.four_at.Goals as goal

pub returns : goal.returns
returns c = c.from_be_bytes.ensures ∙ number-four c.args.bytes.now c.args.at
