-- `fill_all` is its two stages, one after the other (proofs/Logged.antt). Assumes nothing.
use mathlib.Core.Path.{◌∙◌}
use lib.ListN.{length}
use Rattle.frequencies.proofs.Logged.{filled}
use Rattle.frequencies.proofs.fill_all.Goals as goal

pub returns : goal.returns
returns c =
    let a = c.args in
    c.log2_row.ensures ∙ filled a.sample_rate a.fft_size (length a.table.now) _ c.bin_hz-spacing.result c.fill_hertz.new.table c.bin_hz-spacing.ensures c.fill_hertz.ensures c.fill_hertz.auto.table
