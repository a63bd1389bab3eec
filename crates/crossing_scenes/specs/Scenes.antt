-- How a scene crosses to and from a caller in C: as one record of plain numbers, with all 128
-- places for voices. Assumes nothing.
use Rattle.std.specs.Prelude.{◌≡◌, ◌<◌, map, Result, MatchResult}
use Rattle.answer.specs.Reply.{Reply, number, place, of_refusal}
use Rattle.answer.specs.declared.Refusal.{Refusal}
use Rattle.scene.specs.declared.Scene.{Scene}
use Rattle.crossing.specs.MaskSettings.{config_of, plain_settings, shape_reply}
use Rattle.voice_records.specs.VoiceRecords.{plain_voice, voices_of_record}
use Rattle.crossing_scenes.specs.declared.PlainScene.{PlainScene}
use Rattle.crossing_scenes.specs.declared.PlainSceneRead.{PlainSceneRead}

-- ---- from C
abbrev pub scene_of : PlainScene → Scene
scene_of plain =
    record {
      config = config_of plain.settings;
      voices = voices_of_record plain.voices;
      count = plain.count;
    }

-- what is read of a plain scene: the scene where the shape is one of 0..7, otherwise refusal 2,
-- after refusal 1
abbrev pub ReadsScene : PlainScene → Result Scene Refusal → Type 0
ReadsScene plain r =
    MatchResult r (λ scene. (plain.settings.motion_shape < 8) × (scene ≡ scene_of plain))
    (λ refusal. (7 < plain.settings.motion_shape)
    × (of_refusal refusal ≡ shape_reply plain.settings))

-- ---- to C
abbrev pub plain_scene : Scene → PlainScene
plain_scene scene =
    record {
      settings = plain_settings scene.config;
      count = scene.count;
      voices = map plain_voice scene.voices;
    }

-- what a read answers, with the scene beside it
abbrev pub plain_read : Reply → Scene → PlainSceneRead
plain_read reply scene =
    record { number = number reply; place = place reply; scene = plain_scene scene }
