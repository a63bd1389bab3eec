-- `find` meets its contract: t lies in the step h, and there `place` gives the low bits. Assumes
-- nothing.
use mathlib.Core.Path.{ap, ◌∙◌, sym, subst}
use Prim.Native.Nat.{ℕ, ◌+◌, ◌*◌, ◌%◌, ◌^◌, ◌<◌}
use native.Mathlib.Nat.{lt_trans}
use native.Mathlib.Omega.{arith}
use lib.Dec.{lit<}
use Rattle.power.specs.Table.{low_bits}
use Rattle.power.proofs.Search.{Between, step_is, a-le, a-lt-b, place-some, place_inside, place-wide, sum_fits, is_found}
use Rattle.power.proofs.log2.find.Goals.{After-place, Start}
use Rattle.power.proofs.log2.find.Goals as goal

between : (c : Start) → Between c.args.t c.args.h c.args.a c.args.b
between c =
    let p = c.requires in
    let e = p.2 in
    record { small = p.1; step = step_is c.args.t c.args.h p.0 p.1 e.step; left = e.from; right = e.to }

pub overflow_sub-t : goal.overflow_sub-t
overflow_sub-t c = a-le (between c)

pub overflow_sub-b : goal.overflow_sub-b
overflow_sub-b c = omega (arith, a-lt-b (between c))

pub place-requires : goal.place-requires
place-requires c = (place-some (between c), place_inside (between c), place-wide (between c))

abbrev upper : After-place → ℕ
upper c = c.args.h * 2 ^ low_bits % 2 ^ 32

pub overflow_add-result : goal.overflow_add-result
overflow_add-result c = record { fits = subst (λ (r : ℕ). upper c + r < 2 ^ 32) (sym c.place.ensures) (lt_trans (sum_fits (between c.before)) (lit< tt)) }

pub returns : goal.returns
returns c = ap (λ (r : ℕ). upper c + r) c.place.ensures ∙ is_found (between c.before)
