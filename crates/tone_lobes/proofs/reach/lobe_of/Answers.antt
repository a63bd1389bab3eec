-- `lobes::reach::lobe_of` meets its contract, field by field. The peak bin is at most the last, so
-- the table reaches it. Assumes nothing.
use mathlib.Core.Path.{sym, subst}
use Prim.Native.Nat.{ℕ, ◌≤◌}
use native.Mathlib.Nat.{le_trans, lt_of_le_of_lt}
use Rattle.lobes.specs.Lobe.{lobe_of}
use Rattle.lobes.proofs.Closest.{closest-le}
use Rattle.lobes.proofs.Lent.{if-lent}
use Rattle.tone_lobes.proofs.reach.lobe_of.Goals as goal

pub distance-peak-requires : goal.distance-peak-requires
distance-peak-requires c =
    let le = subst (λ (bin : ℕ). bin ≤ c.args.grid.last_bin) (sym c.closest_bin_in_cents-peak_bin.ensures) (closest-le _ _ _) in
    (c.log2-center_log2.ensures, le_trans le c.requires.0, if-lent _ c.requires.2 (λ entries e inside. lt_of_le_of_lt le inside))

pub returns : goal.returns
unfolding lobe_of
returns c =
    simp (c.powi2.ensures, c.last_bin.ensures, c.first_bin.ensures, c.distance-peak.ensures, c.closest_bin_in_cents-peak_bin.ensures, c.harmonic_gain.ensures, c.log2-center_log2.ensures, c.center_of-center.ensures)
