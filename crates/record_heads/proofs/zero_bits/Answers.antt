-- `zero_bits` meets its contract. Assumes nothing.
use lib.Dec.{eqb}
use Prim.Native.Nat.{ℕ}
use mathlib.Core.Path.{ap, ◌∙◌}
use Rattle.record_heads.proofs.Fields.{masked}
use Rattle.record_heads.proofs.zero_bits.Goals as goal

pub returns : goal.returns
returns c = ap (λ (n : ℕ). eqb n 0) (c.field_at.ensures ∙ masked c.args.number 0 3)
