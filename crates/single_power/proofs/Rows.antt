-- Row k of the table has the entries from 32 * k on, so its entry i is entry 32 * k + i of the
-- table. Assumes nothing.
use mathlib.Core.Path.{◌≡◌, sym, ap, ◌∙◌}
use Prim.Native.Nat.{ℕ, ◌+◌, ◌*◌, ◌/◌, ◌%◌, ◌^◌, ◌≤◌}
use native.Mathlib.Omega.{arith}
use mathlib.Core.List.{List}
use lib.ListN.{get_or, take, drop}
use lib.Seq.{get_or-take, get_or-drop}
use Rattle.power.specs.Table.{high_bits, power_table, P}
use Rattle.power.proofs.Search.{P-last}

abbrev pub row : ℕ → List ℕ
row k = take 32 (drop (32 * k) power_table)

pub entry-of-row : (k j : ℕ) {a : ℕ} {entries : List ℕ} → j / 32 ≡ k → a ≡ get_or entries (j % 32) 0 → entries ≡ row k → a ≡ P j
entry-of-row k j e s r =
    let z : 32 * k + j % 32 ≡ j = omega arith in
    s ∙ ap (λ es. get_or es (j % 32) 0) r ∙ get_or-take 32 (drop (32 * k) power_table) (j % 32) 0 (omega arith) ∙ get_or-drop (32 * k) power_table (j % 32) 0 ∙ ap P z

-- past the rows there is the end of the last one
pub end-of-rows : (j : ℕ) → j ≤ 2 ^ high_bits → 32 ≤ j / 32 → 2 ^ 31 ≡ P j
end-of-rows j l h = let e : j ≡ 2 ^ high_bits = omega arith in rw e (sym P-last)
