-- A scene comes back from its plain record, and what the loop that copies its voices makes. Assumes
-- nothing.
use mathlib.Core.Path.{◌≡◌, refl, sym, ap, ◌∙◌}
use mathlib.Core.List.{List, [], ◌∷◌, map}
use Prim.Native.Nat.{ℕ, zero, suc}
use lib.ListN.{length, get_or}
use Rattle.lists.specs.Maps.{tab_from, tabulate, tabulate-self}
use Rattle.scene.specs.declared.MaskVoice.{MaskVoice}
use Rattle.scene.specs.declared.MaskConfig.{MaskConfig}
use Rattle.scene.specs.declared.Scene.{Scene}
use Rattle.scene.specs.Accepted.{no_voice}
use Rattle.scene.proofs.Parts.{fields-same}
use Rattle.scene.proofs.Shapes.{shape-of-number}
use Rattle.crossing.specs.MaskSettings.{config_of, plain_settings}
use Rattle.voice_records.specs.VoiceRecords.{plain_voice, voices_of_record}
use Rattle.voice_records.proofs.RecordVoices.{voice-back}
use Rattle.crossing_scenes.specs.Scenes.{scene_of, plain_scene}

-- ---- what goes to C and comes back
settings-back : (config : MaskConfig) → config_of (plain_settings config) ≡ config
settings-back config =
    fields-same config refl refl refl (shape-of-number config.motion.shape)

voices-back : (voices : List MaskVoice) → voices_of_record (map plain_voice voices) ≡ voices
voices-back [] = refl
voices-back (v ∷ vs) = rw (voice-back v) (ap (λ (l : List MaskVoice). v ∷ l) (voices-back vs))

pub scene-back : (scene : Scene) → scene_of (plain_scene scene) ≡ scene
scene-back scene = go (settings-back scene.config) (voices-back scene.voices)
  where
    go : {config : MaskConfig} {voices : List MaskVoice} → config ≡ scene.config
        → voices ≡ scene.voices
        → record { config = config; voices = voices; count = scene.count } ≡ scene
    go e f = rw (e, f)

-- ---- the loop
map-tab :
    {A B : Type 0} (f : A → B) (g : ℕ → A) (i n : ℕ)
    → map f (tab_from g i n) ≡ tab_from (λ k. f (g k)) i n
unfolding tab_from
map-tab f g i zero = refl
map-tab f g i (suc n) = ap (λ (l : List _). f (g i) ∷ l) (map-tab f g (suc i) n)

pub each-plain :
    (voices : List MaskVoice)
    → tabulate (length voices) (λ k. plain_voice (get_or voices k no_voice)) ≡ map plain_voice voices
each-plain voices =
    sym (map-tab plain_voice (λ k. get_or voices k no_voice) 0 (length voices))
    ∙ ap (map plain_voice) (sym (tabulate-self no_voice voices))
