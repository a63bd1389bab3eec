-- `bound_at` is the definition's clamp, of the entry that its two calls find. Assumes nothing.
use Rattle.lobe_bounds.proofs.bound_at.Goals as goal

pub returns : goal.returns
returns c =
    let ts = c.args.gaussians.now.is_gaussian_table in
    rw (← c.floor_to_count.ensures, ← c.min-left.ensures, ← ts) c.clamp.ensures
