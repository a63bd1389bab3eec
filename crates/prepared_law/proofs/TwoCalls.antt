-- The law of what two calls leave in lent slices: the block that `new` leaves is the one that the
-- stereo call is given. Assumes nothing.
use mathlib.Core.Path.{◌≡◌, refl, ap, ◌∙◌}
use mathlib.Core.List.{List}
use Prim.Native.Nat.{◌*◌}
use lib.Dec.{T}
use lib.ListN.{take, drop}
use lib.Ieee.{Float, binary32, fits}
use Rattle.answer.specs.Reply.{Reply}
use Rattle.answer.specs.Written.{written}
use Rattle.lobes.specs.Pan.{Side}
use Rattle.lobes.specs.Pan as side
use Rattle.lobes.specs.Distance.{lent}
use Rattle.mask_builder.specs.Mask.{mask_of}
use Rattle.prepared_spectrum.specs.Block.{block_of}
use Rattle.prepared_law.specs.Calls.{NewCall, new_reply, block_after}
use Rattle.prepared_law.specs.Calls.{StereoCall, built_of, on_block}
use Rattle.prepared_law.specs.Law.{BuiltByBlock}
use Rattle.prepared_law.proofs.Law.{prepared-law}

-- what `new` leaves in the block
pub block-left :
    (new : NewCall) {reply : Reply} {block : List Float} → reply ≡ new_reply new
    → block
    ≡ written reply (block_of new.rate new.window new.smooth new.overlap) new.block
    → block ≡ block_after new
block-left new e b = rw e at b

-- the mask of one side, by the table in a block
abbrev mask_by : Side → StereoCall → List Float → List Float
mask_by s call block =
    mask_of call.curve call.config (lent (drop (4 * call.config.fft_size) block)) s
    (take call.count call.voices)

pub built-by-block :
    (new : NewCall) (call : StereoCall) {reply : Reply} {block l r : List Float}
    → T (fits binary32 new.rate) → block ≡ block_after new
    → reply ≡ (on_block call block).reply
    → l ≡ written reply (mask_by side.left call block) call.left
    → r ≡ written reply (mask_by side.right call block) call.right
    → BuiltByBlock new call (built_of reply l r)
built-by-block new call {reply} {block} {l} {r} f32 b e p q d at table long =
    let built : built_of reply l r ≡ on_block call block = rw (p, q, e) refl in
    built ∙ ap (on_block call) b ∙ (prepared-law new f32 d).same-masks call at table long
