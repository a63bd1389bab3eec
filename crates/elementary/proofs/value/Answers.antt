-- `elementary::value` meets its contract: each arm calls the function that its name says. Assumes
-- nothing.
use Rattle.elementary.proofs.value.Goals as goal

pub returns-in-Exp2 : goal.returns-in-Exp2
returns-in-Exp2 c = rw c.in-Exp2.is c.exp2.ensures

pub returns-in-Log2 : goal.returns-in-Log2
returns-in-Log2 c = rw c.in-Log2.is c.log2.ensures

pub returns-in-Sin : goal.returns-in-Sin
returns-in-Sin c = rw c.in-Sin.is c.sin.ensures

pub returns-in-Cos : goal.returns-in-Cos
returns-in-Cos c = rw c.in-Cos.is c.cos.ensures

pub returns-in-Sqrt : goal.returns-in-Sqrt
returns-in-Sqrt c = rw c.in-Sqrt.is c.sqrt.ensures

pub returns-in-Pow10 : goal.returns-in-Pow10
returns-in-Pow10 c = rw c.in-Pow10.is c.pow10.ensures

pub returns-in-Exp : goal.returns-in-Exp
returns-in-Exp c = rw c.in-Exp.is c.exp.ensures

pub returns-in-Log10 : goal.returns-in-Log10
returns-in-Log10 c = rw c.in-Log10.is c.log10.ensures

pub returns-in-RemEuclid : goal.returns-in-RemEuclid
returns-in-RemEuclid c = rw c.in-RemEuclid.is c.rem_euclid_one.ensures

pub returns-in-Powi2 : goal.returns-in-Powi2
returns-in-Powi2 c = rw c.in-Powi2.is c.powi2.ensures

pub returns-in-Powi5 : goal.returns-in-Powi5
returns-in-Powi5 c = rw c.in-Powi5.is c.powi5.ensures

pub returns-in-Abs : goal.returns-in-Abs
returns-in-Abs c = rw c.in-Abs.is c.abs.ensures
