-- `gather` meets its contract: the array begins with the voices, and is silent after them. Assumes
-- nothing.
use Rattle.std.proofs.Common.{ℕ, ap}
use Rattle.std.proofs.lemmas.List.{drop-replicate}
use Rattle.scene.specs.Made.{silent_voice}
use Rattle.scene.specs.Gathered.{gathered_to}
use Rattle.lent_voices.proofs.gather.Goals as goal

pub returns : goal.returns
unfolding gathered_to
returns c =
    let n = c.held-count.result in
    rw (c.copy_from_slice.ensures.after, c.silent_voices-array.ensures, drop-replicate n 128 silent_voice)
    (ap (λ (k : ℕ). gathered_to k c.args.voices.now) c.held-count.ensures)
