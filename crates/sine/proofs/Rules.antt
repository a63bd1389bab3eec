-- The two tables keep their rules: each rule is one test over the whole table. Assumes nothing.
use Rattle.std.specs.Prelude.{refl, Bool, ◌&&◌, ℕ, ◌+◌, ◌*◌, ◌/◌, ◌^◌, T, leb, ltb, eqb}
use Rattle.std.proofs.Common.{leb→le, ltb→lt, eqb→eq}
use Rattle.std.specs.Float.Ieee.Fits.{and_l, and_r}
use Rattle.lists.specs.Tested.{all_below, below_at}
use Rattle.sine.specs.Table.{half_angle_cosines, sine_table, K, R}
use Rattle.sine.specs.Rules.{RuleOfK, RuleOfR}

-- ---- the tests
root : ℕ → ℕ → Bool
root r n = leb (r * r) n && ltb n ((r + 1) * (r + 1))

K-next : ℕ → Bool
K-next i = root (K (i + 1)) ((2 ^ 30 + K i) * 2 ^ 29)

K-all : T (all_below 8 K-next)
unfolding K-next root half_angle_cosines
K-all = tt

R-middle : ℕ → ℕ → ℕ → Bool
R-middle s width i = eqb (R (i * width + width / 2)) ((R (i * width) + R ((i + 1) * width)) * 2 ^ 29 / K (s + 1))

R-row : ℕ → Bool
R-row s = all_below (2 ^ s) (R-middle s (256 / 2 ^ s))

R-all : T (all_below 8 R-row)
unfolding R-row R-middle sine_table half_angle_cosines
R-all = tt

-- ---- the rules
pub K-rule : RuleOfK half_angle_cosines
unfolding K-next root half_angle_cosines
K-rule = record {
  entries = refl;
  first = refl;
  next = λ i h.
      let r = K (i + 1) in
      let n = (2 ^ 30 + K i) * 2 ^ 29 in
      let t : T (root r n) = below_at 8 K-next K-all i h in
      (leb→le (r * r) n (search and_l), ltb→lt n ((r + 1) * (r + 1)) (search and_r));
}

pub R-rule : RuleOfR sine_table
unfolding R-row R-middle sine_table
R-rule = record {
  entries = refl;
  first = refl;
  last = refl;
  middle = λ s i h k. eqb→eq _ _ (below_at (2 ^ s) (R-middle s (256 / 2 ^ s)) (below_at 8 R-row R-all s h) i k);
}
