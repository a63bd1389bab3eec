-- `shape_row` meets its contract: each arm calls the function that its shape names. Assumes
-- nothing.
use Rattle.motion_rows.proofs.shapes.shape_row.Goals as goal

pub returns-in-Ripple : goal.returns-in-Ripple
returns-in-Ripple c = rw c.in-Ripple.is c.ripples.ensures

pub returns-in-Harmonic : goal.returns-in-Harmonic
returns-in-Harmonic c = rw c.in-Harmonic.is c.harmonics.ensures

pub returns-in-Drift : goal.returns-in-Drift
returns-in-Drift c = rw c.in-Drift.is c.drifts.ensures

pub returns-in-Scan : goal.returns-in-Scan
returns-in-Scan c = rw c.in-Scan.is c.windows.ensures

pub returns-in-Notch : goal.returns-in-Notch
returns-in-Notch c = rw c.in-Notch.is c.notches.ensures

pub returns-in-Saw : goal.returns-in-Saw
returns-in-Saw c = rw c.in-Saw.is c.saws.ensures

pub returns-in-Sprinkle : goal.returns-in-Sprinkle
returns-in-Sprinkle c = rw c.in-Sprinkle.is c.ones.ensures

pub returns-in-Cloud : goal.returns-in-Cloud
returns-in-Cloud c = rw c.in-Cloud.is c.ones-in-Cloud.ensures
