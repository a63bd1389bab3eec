-- The settings of a mask are read where their shape is one of 0..7. Assumes nothing.
use native.Mathlib.Omega.{arith}
use Rattle.crossing.proofs.settings.MaskConfigTryFromSettings.try_from.Goals as goal

pub returns : goal.returns
returns c = (omega (arith, c.if-settings-gt7.false), c.config_of-config.ensures)
