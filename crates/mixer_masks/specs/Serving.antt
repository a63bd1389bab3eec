-- A turn with the scene of the strip that it names, in the words of request 106: "that strip's
-- scene then goes to the stereo call, which may refuse it". Assumes nothing.
use Rattle.std.specs.Prelude.{false, cond, List, [], ℕ, leb, get_or, take, Float, Option, Some, None}
use Rattle.std.specs.Float.{nan}
use Rattle.answer.specs.Refusal.{STRIP}
use Rattle.answer.specs.Reply.{Reply, done, refused}
use Rattle.answer.specs.Written.{written}
use Rattle.scene.specs.declared.MotionShape.TheVariants.{Ripple}
use Rattle.scene.specs.declared.MaskConfig.{MaskConfig}
use Rattle.scene.specs.declared.Scene.{Scene}
use Rattle.lobes.specs.Pan.{Side}
use Rattle.lobes.specs.Distance.{lent}
use Rattle.mask_builder.specs.Mask.{mask_of}
use Rattle.refusals.specs.Masks.{stereo_reply}
use Rattle.mixer.specs.Mixers.{strip_count}

-- ---- scenes, one for each strip

-- what stands past the last of them, and is not looked at
abbrev no_settings : MaskConfig
no_settings =
    record {
      sample_rate = nan;
      fft_size = 0;
      note_depth_db = nan;
      note_layer_enabled = false;
      width_cents = nan;
      partials = 0;
      harmonic_rolloff_db_per_octave = nan;
      motion = record { shape = Ripple; depth_db = nan; phase = nan; size_octaves = nan };
    }

abbrev pub no_scene : Scene
no_scene = record { config = no_settings; voices = []; count = 0 }

abbrev pub scene_at : List Scene → ℕ → Scene
scene_at scenes strip = get_or scenes strip no_scene

-- ---- the stereo call on a scene

-- its answer, where the slices to write have m and n entries
abbrev pub scene_reply : ℕ → ℕ → List Float → Scene → List Float → Reply
scene_reply m n curve scene table =
    stereo_reply m n curve scene.voices scene.count scene.config table

-- the mask of one side
abbrev pub scene_mask : Side → List Float → Scene → List Float → List Float
scene_mask side curve scene table =
    mask_of curve scene.config (lent table) side (take scene.count scene.voices)

-- ---- on the scene of the strip that a turn names

-- where that scene stands; the first place where the turn names none of the sixteen strips
abbrev pub scene_place : Option ℕ → ℕ
scene_place (Some strip) = cond (leb strip_count strip) 0 strip
scene_place None = 0

-- the answer, given that to each strip's scene. "A strip above 15 is refusal 11, before all
-- others", which no turn of a mixer that calls have made can name.
abbrev pub named_reply : (ℕ → Reply) → Option ℕ → Reply
named_reply reply (Some strip) = cond (leb strip_count strip) (refused STRIP 0) (reply strip)
named_reply reply None = done []

-- what a slice then holds, given the mask of each strip's scene. "A turn with nobody waiting ..
-- changes nothing".
abbrev pub named_mask : (ℕ → List Float) → Option ℕ → Reply → List Float → List Float
named_mask mask (Some strip) reply old = written reply (mask strip) old
named_mask mask None reply old = old
