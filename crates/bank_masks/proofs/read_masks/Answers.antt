-- `read_masks` meets its contract: the array lent to the stereo call has the bank's voices. Assumes
-- nothing.
use Rattle.bank_masks.proofs.read_masks.Goals as goal

pub returns : goal.returns
returns c =
    rw (← c.voices_of-voices.ensures) c.build_stereo_masks_with_voices_precomputed.ensures
