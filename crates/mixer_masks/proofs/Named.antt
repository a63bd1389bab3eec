-- What goes to the stereo call is the scene of the strip that is named, where there is one:
-- whatever else stands in its place does not count. Assumes nothing.
use mathlib.Core.Path.{◌≡◌, refl, ap, ◌∙◌}
use mathlib.Core.Bool.{Bool, true, false, cond}
use mathlib.Core.List.{List}
use Prim.Native.Nat.{ℕ}
use lib.Dec.{leb}
use lib.Ieee.{Float}
use Rattle.std.specs.Prelude.{Option, Some, None}
use Rattle.answer.specs.Refusal.{STRIP}
use Rattle.answer.specs.Reply.{Reply, refused}
use Rattle.answer.specs.Written.{written}
use Rattle.mixer.specs.Mixers.{strip_count}
use Rattle.mixer_masks.specs.Serving.{scene_place, named_reply, named_mask}

module _ (reply : ℕ → Reply) where
  same-reply :
      (named : Option ℕ)
      → named_reply (λ strip. reply (scene_place named)) named ≡ named_reply reply named
  same-reply None = refl
  same-reply (Some strip) = go (leb strip_count strip)
    where
      go :
          (above : Bool)
          → cond above (refused STRIP 0) (reply (cond above 0 strip))
          ≡ cond above (refused STRIP 0) (reply strip)
      go true = refl
      go false = refl

  same-mask :
      (mask : ℕ → List Float) (old : List Float) (named : Option ℕ)
      → named_mask (λ strip. mask (scene_place named)) named (named_reply reply named) old
      ≡ named_mask mask named (named_reply reply named) old
  same-mask mask old None = refl
  same-mask mask old (Some strip) = go (leb strip_count strip)
    where
      go :
          (above : Bool)
          → written (cond above (refused STRIP 0) (reply strip)) (mask (cond above 0 strip)) old
          ≡ written (cond above (refused STRIP 0) (reply strip)) (mask strip) old
      go true = refl
      go false = refl

  -- of a call on the scene at that place
  module _ (named : Option ℕ) (place : ℕ) (there : place ≡ scene_place named) where
    pub reply-named :
        {answer : Reply} → answer ≡ named_reply (λ strip. reply place) named
        → answer ≡ named_reply reply named
    reply-named e = e ∙ ap (λ p. named_reply (λ strip. reply p) named) there ∙ same-reply named

    pub mask-named :
        {answer : Reply} {xs : List Float} (mask : ℕ → List Float) (old : List Float)
        → answer ≡ named_reply reply named → xs ≡ named_mask (λ strip. mask place) named answer old
        → xs ≡ named_mask mask named answer old
    mask-named {answer} mask old e w =
        w
        ∙ ap (λ p. named_mask (λ strip. mask p) named answer old) there
        ∙ rw e (same-mask mask old named)
