-- Settings with a shape of 0..7 go on to the call, and others are refused and leave every slice as
-- it was. Assumes nothing.
use mathlib.Core.Path.{◌≡◌, refl, ap, ◌∙◌}
use mathlib.Core.Bool.{Bool, true, false, cond}
use Prim.Native.Nat.{◌≤◌, ◌<◌}
use borrow.Author.Tests.{le-leb, lt-leb}
use lib.Dec.{leb}
use Rattle.answer.specs.Refusal.{SIZE_OR_RATE, SETTING}
use Rattle.answer.specs.Reply.{Reply, refused}
use Rattle.scene.specs.declared.MaskConfig.{MaskConfig}
use Rattle.scene.specs.Accepted.{size_accepted}
use Rattle.answer.specs.Written.{written}
use Rattle.refusals.proofs.MaskAccepted.{Done}
use Rattle.crossing.specs.declared.settings.Settings.{Settings}
use Rattle.crossing.specs.MaskSettings.{config_of, with_settings}

refused-left : {A : Type 0} (b : Bool) (new old : A) → old ≡ written (cond b (refused SETTING 0) (refused SIZE_OR_RATE 0)) new old
refused-left true new old = refl
refused-left false new old = refl

module _ (settings : Settings) (reply : MaskConfig → Reply) (config : MaskConfig) (same : config ≡ config_of settings) where
  -- with a shape of 0..7
  pub known : {a : Reply} → a ≡ reply config → settings.motion_shape ≤ 7 → a ≡ with_settings settings reply
  unfolding with_settings
  known {a} e h = e ∙ ap reply same ∙ rw (le-leb settings.motion_shape 7 h)

  pub known-left : {A : Type 0} {a : Reply} {xs : A} (mask : MaskConfig → A) (old : A) → a ≡ reply config → settings.motion_shape ≤ 7 → xs ≡ written a (mask config) old
      → xs ≡ written (with_settings settings reply) (mask (config_of settings)) old
  known-left {A} {a} {xs} mask old e h w = w ∙ ap (λ (k : MaskConfig). written a (mask k) old) same ∙ ap (λ (r : Reply). written r (mask (config_of settings)) old) (known e h)

  -- with another shape
  pub unknown : {a : Reply} → a ≡ cond (size_accepted config) (refused SETTING 0) (refused SIZE_OR_RATE 0) → 7 < settings.motion_shape → a ≡ with_settings settings reply
  unfolding with_settings
  unknown {a} e h = e ∙ ap (λ (k : MaskConfig). cond (size_accepted k) (refused SETTING 0) (refused SIZE_OR_RATE 0)) same ∙ rw (lt-leb settings.motion_shape 7 h)

pub unknown-left : {A : Type 0} (settings : Settings) (reply : MaskConfig → Reply) (new old : A) → 7 < settings.motion_shape → old ≡ written (with_settings settings reply) new old
unfolding with_settings
unknown-left settings reply new old h = rw (lt-leb settings.motion_shape 7 h) (refused-left (size_accepted (config_of settings)) new old)

-- of equal replies
pub with-same : (settings : Settings) (a b : MaskConfig → Reply) → ((config : MaskConfig) → a config ≡ b config) → with_settings settings a ≡ with_settings settings b
unfolding with_settings
with-same settings a b e = rw (e (config_of settings))

-- a call that is done was given what the call itself accepts
shape-done : (known : Bool) (a : Reply) (size : Bool) → Done (cond known a (cond size (refused SETTING 0) (refused SIZE_OR_RATE 0))) → Done a
shape-done true a size d = d
shape-done false a true d = absurd d
shape-done false a false d = absurd d

pub with-done : (settings : Settings) (reply : MaskConfig → Reply) → Done (with_settings settings reply) → Done (reply (config_of settings))
unfolding with_settings
with-done settings reply d = shape-done (leb settings.motion_shape 7) (reply (config_of settings)) (size_accepted (config_of settings)) d
