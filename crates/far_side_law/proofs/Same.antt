-- Of one curve, table and settings as data, the masks of a side are the same bits: each is that of
-- the near voices, and these are one list. Assumes nothing.
use mathlib.Core.Path.{◌≡◌, refl, sym, ◌∙◌}
use mathlib.Core.List.{List}
use Prim.Native.Nat.{◌+◌, ◌/◌}
use lib.Ieee.{Float}
use Rattle.scene.specs.declared.MaskVoice.{MaskVoice}
use Rattle.scene.specs.declared.MaskConfig.{MaskConfig}
use Rattle.lobes.specs.Pan.{Side}
use Rattle.lobes.specs.Distance.{lent}
use Rattle.mask_builder.specs.Mask.{mask_at, mask_of}
use Rattle.mask_builder.proofs.Built.{tab-same}
use Rattle.chord_law.specs.Calls.{Call, F32Call, Accepted, given, whole, mask_on}
use Rattle.far_side_law.specs.Sides.{near}
use Rattle.far_side_law.specs.FarSide.{SameScene}
use Rattle.far_side_law.proofs.NearVoices.{mask-near}

-- the mask of a call on these voices
abbrev mask_by : Side → Call → List MaskVoice → List Float
mask_by side call voices = mask_of call.curve call.config (lent call.table) side voices

of-near :
    (side : Side) (call : Call) → Accepted (whole call) → F32Call call
    → mask_on side call ≡ mask_by side call (near side (given call))
of-near side call p f =
    tab-same (mask_at call.curve call.config (lent call.table) side (given call))
    (mask_at call.curve call.config (lent call.table) side (near side (given call))) 0
    (call.config.fft_size / 2 + 1) (mask-near side call p f)

pub masks-same :
    (side : Side) (a b : Call) → F32Call a → F32Call b → SameScene side (whole a) (whole b)
    → mask_on side a ≡ mask_on side b
masks-same side a b fa fb h =
    of-near side a h.a-accepted fa
    ∙ one h.curve h.settings h.table h.voices
    ∙ sym (of-near side b h.b-accepted fb)
  where
    one :
        {curve curve' : List Float} {config config' : MaskConfig} {table table' : List Float}
        {xs ys : List MaskVoice} → curve ≡ curve' → config ≡ config' → table ≡ table' → xs ≡ ys
        → mask_of curve config (lent table) side xs ≡ mask_of curve' config' (lent table') side ys
    one p q r s = rw (p, q, r, s) refl
