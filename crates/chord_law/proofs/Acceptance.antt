-- What an accepted call is given: what `refusals` knows of a scene that is built, said of a call.
-- Assumes nothing.
use mathlib.Core.Path.{◌≡◌}
use Prim.Native.Nat.{ℕ, ◌<◌}
use lib.Dec.{T}
use lib.ListN.{length, get_or}
use lib.Ieee.{nan, binary32}
use Rattle.lists.specs.Totals.{All, all-at}
use Rattle.float_laws.specs.Units.{number}
use Rattle.limits.specs.Lengths.{manual_mask_points}
use Rattle.scene.specs.Accepted.{no_voice, size_accepted, settings_accepted}
use Rattle.scene.specs.Voices.{RealVoice}
use Rattle.refusals.proofs.MaskAccepted.{Done, is-done, stereo-accepted, stereo-settings}
use Rattle.refusals.proofs.RealScene.{RealScene, RealTable, stereo-scene, stereo-table}
use Rattle.refusals.specs.Masks.{bins}
use Rattle.chord_law.specs.Calls.{Call, Accepted, reply_to, given, whole, F32Call}

module _ (call : Call) (accepted : Accepted (whole call)) where
  built : Done (reply_to call)
  built = is-done (reply_to call) accepted

  settings : T (size_accepted call.config) × T (settings_accepted call.config)
  settings =
      stereo-settings call.curve call.config call.voices call.count call.table
      call.left-length call.right-length built

  pub size-accepted : T (size_accepted call.config)
  size-accepted = settings.0

  pub settings-accepted : T (settings_accepted call.config)
  settings-accepted = settings.1

  pub curve-length : length call.curve ≡ manual_mask_points
  curve-length =
      (stereo-accepted call.curve call.config call.voices call.count call.table
      call.left-length call.right-length built).0.0

  pub table-length : length call.table ≡ bins call.config
  table-length =
      (stereo-accepted call.curve call.config call.voices call.count call.table
      call.left-length call.right-length built).2

  module _ (f : F32Call call) where
    real : RealScene call.voices call.count call.config
    real =
        stereo-scene call.curve call.voices call.count call.config call.table
        call.left-length call.right-length built f.voices-f32 f.settings-f32

    table : RealTable call.config call.table
    table =
        stereo-table call.curve call.voices call.count call.config call.table
        call.left-length call.right-length built f.table-f32

    pub all-real : All RealVoice (given call)
    all-real = real.voices-real

    pub given-real : (i : ℕ) → i < length (given call) → RealVoice (get_or (given call) i no_voice)
    given-real i h = all-at RealVoice (given call) i no_voice all-real h

    pub entry-number :
        (i : ℕ) → 0 < i → i < length call.table → T (number binary32 (get_or call.table i nan))
    entry-number = table.entry-number
