-- `envelopes::fade_alpha` meets its contract: within their limits the times give a fraction in
-- 0..1 (proofs/Alpha.antt). Assumes nothing.
use mathlib.Core.Path.{sym, subst}
use lib.Dec.{T}
use Rattle.float32.proofs.InUnit.{InUnit, unit-within}
use Rattle.limits.specs.Limits as limits
use Rattle.envelopes.specs.Envelope.{fade_alpha}
use Rattle.envelopes.proofs.Alpha.{accepted-alpha-unit}
use Rattle.envelopes.proofs.fade_alpha.Goals.{Start}
use Rattle.envelopes.proofs.fade_alpha.Goals as goal

unit : (c : Start) → InUnit (fade_alpha c.args.elapsed_seconds c.args.fade_ms)
unit c = accepted-alpha-unit c.args.elapsed_seconds c.args.fade_ms (subst T (sym c.well_formed.0.1) tt) (subst T (sym c.well_formed.1.0.1) tt) c.requires.0 c.requires.1

pub returns : goal.returns
returns c =
    let e = c.smoothing_alpha.ensures in
    (e, subst (λ r. T (limits.level r)) (sym e) (unit-within _ (unit c.before)))
