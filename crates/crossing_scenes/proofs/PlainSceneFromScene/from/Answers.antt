-- A scene's plain settings, its count and its plain voices are its plain scene. Assumes nothing.
use mathlib.Core.Path.{refl}
use Rattle.crossing_scenes.proofs.PlainSceneFromScene.from.Goals as goal

pub returns : goal.returns
returns c = rw (c.from-settings.ensures, c.plain_voices-voices.ensures) refl
