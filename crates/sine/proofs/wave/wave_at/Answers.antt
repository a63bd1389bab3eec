-- `sine::wave::wave_at` meets its contract: the value at the turned place is at most 2 ^ 24, and
-- `level` gives it the sign of the quarter. Assumes nothing.
use mathlib.Core.Path.{◌≡◌, ap, ◌∙◌, subst, sym}
use Prim.Native.Nat.{ℕ, ◌/◌, ◌≤◌}
use native.Mathlib.Omega.{arith}
use Rattle.lists.specs.Interpolation.{interp}
use Rattle.sine.specs.Table.{R}
use Rattle.sine.specs.Sine.{turned}
use Rattle.sine.proofs.Waves.{turned_le, wave-small, wave-is}
use Rattle.sine.proofs.wave.wave_at.Goals.{After-interpolated}
use Rattle.sine.proofs.wave.wave_at.Goals as goal

pub interpolated-requires : goal.interpolated-requires
interpolated-requires c = subst (λ (z : ℕ). z ≤ 4194304) (sym c.turned_place.ensures) (turned_le c.args.place)

abbrev u : After-interpolated → ℕ
u r = r.args.place

w-is : (r : After-interpolated) → r.interpolated.result / 64 ≡ interp 14 R (turned (u r)) / 64
w-is r = ap (λ (z : ℕ). z / 64) (r.interpolated.ensures ∙ ap (interp 14 R) r.turned_place.ensures)

small : (r : After-interpolated) → r.interpolated.result / 64 ≤ 16777216
small r = wave-small (u r) (r.interpolated.result / 64) (w-is r)

pub overflow_cast-w : goal.overflow_cast-w
overflow_cast-w c = let l = small c in omega arith

pub level-requires : goal.level-requires
level-requires c = small c

pub returns : goal.returns
returns c =
    let r = c.before in
    c.level.ensures ∙ sym (wave-is (u r) (r.interpolated.result / 64) (w-is r))
