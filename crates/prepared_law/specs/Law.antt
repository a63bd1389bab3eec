-- For what `PreparedSpectrum::new` leaves where it is done: the part after the four windows is the
-- prepared table, no entry of it is refused under 6, and the stereo call on that block, at that
-- rate and size, answers and writes what it does on the prepared table. Assumes nothing.
use Rattle.std.specs.Prelude.{◌≡◌, List, [], T, length, Float}
use Rattle.std.specs.Float.{binary32}
use Rattle.std.specs.Float.Ieee.{fits}
use Rattle.answer.specs.Reply.{done}
use Rattle.limits.specs.Lengths.{bins}
use Rattle.refusals.specs.Masks.{table_reply}
use Rattle.prepared_law.specs.Calls.{NewCall, size_of, new_reply, block_after, table_in}
use Rattle.prepared_law.specs.Calls.{table_after, StereoCall, Built, on_table, on_block}

-- a table of size/2 + 1 entries, as `prepare` takes it
abbrev pub TableFor : NewCall → List Float → Type 0
TableFor new table = length table ≡ bins (size_of new)

-- the rate and the size of a stereo call are those that the block was prepared for
pub record AtRateAndSize (new : NewCall) (call : StereoCall) : Type 0 where
  pub rate : call.config.sample_rate ≡ new.rate
  pub size : call.config.fft_size ≡ size_of new

-- a stereo call by the block was built as one on the prepared table would be
abbrev pub BuiltAsByTable : NewCall → StereoCall → Built → Type 0
BuiltAsByTable new call built =
    AtRateAndSize new call → (table : List Float) → TableFor new table
    → built ≡ on_table call (table_after new.rate (size_of new) table)

pub record BlockIsPrepared (new : NewCall) : Type 0 where
  pub is-prepared :
      (table : List Float) → TableFor new table
      → table_in new ≡ table_after new.rate (size_of new) table
  pub not-refused : table_reply (table_in new) ≡ done []
  pub same-masks : (call : StereoCall) → BuiltAsByTable new call (on_block call (block_after new))

-- `new` is done, whatever gains it answers
abbrev pub IsDone : NewCall → Type 0
IsDone new = (gains : List Float) × (new_reply new ≡ done gains)

-- over every input for which `new` is done; its rate is an f32
abbrev pub PreparedLaw : Type 0
PreparedLaw = (new : NewCall) → T (fits binary32 new.rate) → IsDone new → BlockIsPrepared new

-- the same of the two calls on lent buffers, one after the other
abbrev pub BuiltByBlock : NewCall → StereoCall → Built → Type 0
BuiltByBlock new call built = IsDone new → BuiltAsByTable new call built
