-- What a call on a mixer answers to a caller in C, and how the sixteen scenes come from one.
-- Assumes nothing.
use Rattle.std.specs.Prelude.{Bool, List, ℕ, get_or, Float, Option, is_some, unwrap_or}
use Rattle.answer.specs.Reply.{Reply, number, place}
use Rattle.lobes.specs.Pan.{Side}
use Rattle.mixer.specs.declared.Mixer.{Mixer}
use Rattle.mixer_masks.specs.Serving.{no_scene, scene_reply, scene_mask}
use Rattle.crossing.specs.MaskSettings.{with_settings}
use Rattle.crossing_scenes.specs.declared.PlainScene.{PlainScene}
use Rattle.crossing_scenes.specs.Scenes.{scene_of, plain_scene}
use Rattle.crossing_mixers.specs.declared.PlainFiled.{PlainFiled}
use Rattle.crossing_mixers.specs.declared.PlainTurned.{PlainTurned}
use Rattle.crossing_mixers.specs.declared.PlainServed.{PlainServed}
use Rattle.crossing_mixers.specs.declared.StripScenes.{StripScenes}

-- ---- to C

-- whether a turn names a strip, and which one; 0 where it names none
abbrev pub is_strip : Option ℕ → Bool
is_strip named = is_some named

abbrev pub strip_of : Option ℕ → ℕ
strip_of named = unwrap_or named 0

abbrev pub plain_filed : Reply → Mixer → PlainFiled
plain_filed reply mixer = record { number = number reply; place = place reply; mixer = mixer }

abbrev pub plain_turned : Option ℕ → Mixer → PlainTurned
plain_turned named mixer = record { named = is_strip named; strip = strip_of named; mixer = mixer }

abbrev pub plain_served : Option ℕ → Reply → Mixer → PlainServed
plain_served named reply mixer =
    record {
      number = number reply;
      place = place reply;
      named = is_strip named;
      strip = strip_of named;
      mixer = mixer;
    }

-- ---- from C

-- the stereo call on a scene: its answer, where the slices to write have m and n entries, and the
-- mask of one side
abbrev pub plain_reply : ℕ → ℕ → List Float → PlainScene → List Float → Reply
plain_reply m n curve plain table =
    with_settings plain.settings (λ config. scene_reply m n curve (scene_of plain) table)

abbrev pub plain_mask : Side → List Float → PlainScene → List Float → List Float
plain_mask side curve plain table = scene_mask side curve (scene_of plain) table

-- the scene of a strip; the default is for reads past the last, which no result depends on
abbrev pub plain_at : StripScenes → ℕ → PlainScene
plain_at given strip = get_or given.scenes strip (plain_scene no_scene)
