-- `sine::wave::signed` meets its contract: the numbers are small, so that their bits say them.
-- Assumes nothing.
use mathlib.Core.Path.{◌≡◌, sym, ap, ◌∙◌, subst}
use mathlib.Core.Bool.{Bool, true}
use mir.Syntax.{w32}
use mir.Val.{to_z, SFits}
use mir.Facts.{to_z-of_z}
use lib.IntN.{ℤ, pos, neg_ℤ, ◌-ℤ◌}
use Rattle.sine.proofs.Signed.{with_sign, read_back, from_zero, sign_fits}
use Rattle.sine.proofs.wave.signed.Goals.{Then-negative}
use Rattle.sine.proofs.wave.signed.Goals as goal

negated : (c : Then-negative) → pos 0 -ℤ to_z w32 c.args.w ≡ neg_ℤ (pos c.args.w)
negated c = let w = c.args.w in ap (λ (z : ℤ). pos 0 -ℤ z) (read_back w c.requires) ∙ from_zero w

pub overflow_sub-result : goal.overflow_sub-result
overflow_sub-result c = subst (SFits w32) (sym (negated c)) (sign_fits true c.args.w c.requires)

pub returns-then-negative : goal.returns-then-negative
returns-then-negative c = to_z-of_z (overflow_sub-result c) ∙ negated c ∙ ap (λ (b : Bool). with_sign b c.args.w) (sym c.if-negative.true)

pub returns : goal.returns
returns c = read_back c.args.w c.requires ∙ ap (λ (b : Bool). with_sign b c.args.w) (sym c.if-negative.false)
