-- `sqrt` meets its contract: each way out is one case of the definition. Assumes nothing.
use mathlib.Core.Path.{◌∙◌, sym, subst}
use mathlib.Core.Bool.{Bool, not}
use lib.Dec.{T}
use lib.Ieee.{binary32, fits}
use Rattle.float32.proofs.Made.{no_nan}
use Rattle.square_root.proofs.RootCases.{root-of-nan, root-of-zero, root-of-negative, root-of-infinity, root-of-number, zero-over-zero}
use Rattle.square_root.proofs.sqrt.Goals.{Start}
use Rattle.square_root.proofs.sqrt.Goals as goal

held : (c : Start) → T (fits binary32 c.args.x)
held c = subst T (sym c.well_formed.0.1) tt

pub returns-then-x : goal.returns-then-x
returns-then-x c = root-of-nan c.args.x c.if-x.true

pub decode-d-requires : goal.decode-d-requires
decode-d-requires c = no_nan c.args.x (subst (λ (b : Bool). T (not b)) (sym c.if-x.false) tt)

pub returns-then-mant-eq0 : goal.returns-then-mant-eq0
returns-then-mant-eq0 c = root-of-zero c.args.x _ _ _ c.decode-d.ensures c.if-mant-eq0.true

pub returns-then-neg : goal.returns-then-neg
returns-then-neg c = let b = c.before.before in zero-over-zero ∙ root-of-negative b.args.x _ _ _ b.decode-d.ensures c.if-mant-eq0.false c.if-neg.true

pub returns-then-expo-gt253 : goal.returns-then-expo-gt253
returns-then-expo-gt253 c = let b = c.before.before.before in root-of-infinity b.args.x _ _ _ (held b.before.before) b.decode-d.ensures c.if-neg.false c.if-expo-gt253.true

pub returns : goal.returns
returns c =
    let e = c.before in
    let b = e.before.before.before in
    c.root_of_positive.ensures
    ∙ root-of-number b.args.x _ _ _ (held b.before.before) b.decode-d.ensures e.if-mant-eq0.false e.if-neg.false e.if-expo-gt253.false
