-- `envelopes::word_of` meets its contract: after n iterations the word is the number of the first
-- n bytes. Assumes nothing.
use mathlib.Core.Path.{◌≡◌}
use mathlib.Core.List.{List}
use Prim.Native.Nat.{ℕ, ◌-◌, ◌*◌, ◌^◌, ◌≤◌, ◌<◌}
use lib.ListN.{length}
use Rattle.lists.specs.Bytes.{number_at}
use Rattle.envelopes.specs.Words.{Bytes}
use Rattle.envelopes.proofs.word_of.Given as goal

pub record Joining (held : List ℕ) (index word k : ℕ) : Type 0 where
  pub is : word ≡ number_at held (8 * index) k
  pub below : word < 256 ^ k
  pub bytes : Bytes held (8 * index) k
  pub within : (k ≤ 8) × (index < 2)
  pub sixteen : length held ≡ 16

abbrev pub invariant-loop-k : goal.invariant-loop-k
invariant-loop-k l = Joining l.held l.index l.word l.k
