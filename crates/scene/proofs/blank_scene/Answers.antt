-- `scene::blank_scene` meets its contract. Assumes nothing.
use Rattle.scene.proofs.blank_scene.Goals as goal

pub returns : goal.returns
returns c = simp c.silent_voices-voices.ensures
