-- `motion::field::shape_at` meets its contract: each arm calls the function that its shape names.
-- Assumes nothing.
use Rattle.motion.proofs.field.shape_at.Goals as goal

pub returns-in-Ripple : goal.returns-in-Ripple
returns-in-Ripple c = rw c.in-Ripple.is c.ripple.ensures

pub returns-in-Harmonic : goal.returns-in-Harmonic
returns-in-Harmonic c = rw c.in-Harmonic.is c.harmonic.ensures

pub returns-in-Drift : goal.returns-in-Drift
returns-in-Drift c = rw c.in-Drift.is c.drift.ensures

pub returns-in-Scan : goal.returns-in-Scan
returns-in-Scan c = rw c.in-Scan.is c.window.ensures

pub returns-in-Notch : goal.returns-in-Notch
returns-in-Notch c = rw c.in-Notch.is (simp c.window-in-Notch.ensures)

pub returns-in-Saw : goal.returns-in-Saw
returns-in-Saw c = rw c.in-Saw.is c.saw.ensures
