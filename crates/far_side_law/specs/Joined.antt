-- "On either side and with one table and settings, the openness of two voice lists joined, of at
-- most 128 voices together, is, bin by bin, the greater of the two lists' openness": of two
-- accepted calls, and of the call on both lists. Assumes nothing.
use Rattle.std.specs.Prelude.{◌≡◌, List, [], ◌∷◌, ◌++◌, ℕ, ◌+◌, ◌≤◌, length, Float}
use Rattle.float32.specs.Order.{maximum}
use Rattle.limits.specs.Lengths.{most_voices}
use Rattle.lobes.specs.Pan.{Side}
use Rattle.lobes.specs.Distance.{lent}
use Rattle.mask_builder.specs.Mask.{openness_at}
use Rattle.chord_law.specs.Calls.{Call, F32Call, Accepted, call_of, given, whole, mask_on}
use Rattle.chord_law.specs.Masks.{EqualMasks}

-- "the number a bin holds before the gate is applied": 0 with the note layer off
abbrev pub openness_on : Side → Call → ℕ → Float
openness_on side call bin = openness_at call.config (lent call.table) side (given call) bin

-- two accepted calls with one table and settings, of at most 128 voices together
pub record Joinable (a b : Call) : Type 0 where
  pub a-accepted : Accepted (whole a)
  pub b-accepted : Accepted (whole b)
  pub table : a.table ≡ b.table
  pub settings : a.config ≡ b.config
  pub together : length (given a) + length (given b) ≤ most_voices

-- A's call with B's voices after its own
abbrev pub joined : Call → Call → Call
joined a b =
    let both = given a ++ given b in
    call_of a.left-length a.right-length a.curve both (length both) a.config a.table

-- of two masks the greater gain of each bin
abbrev pub greater_of : List Float → List Float → List Float
greater_of (x ∷ xs) (y ∷ ys) = maximum x y ∷ greater_of xs ys
greater_of [] ys = []
greater_of (x ∷ xs) [] = []

-- The call on both lists is accepted, and a bin's openness is the greater of the two, to the bit.
-- With one curve too, so is its gain, as f32 compares.
pub record GreaterOfTwo (a b : Call) : Type 0 where
  pub accepted : Accepted (whole (joined a b))
  pub openness :
      (side : Side) (bin : ℕ)
      → openness_on side (joined a b) bin ≡ maximum (openness_on side a bin) (openness_on side b bin)
  pub masks :
      a.curve ≡ b.curve → (side : Side)
      → EqualMasks (mask_on side (joined a b)) (greater_of (mask_on side a) (mask_on side b))

-- of every two calls
abbrev pub JoinedLaw : Type 0
JoinedLaw = (a b : Call) → F32Call a → F32Call b → Joinable a b → GreaterOfTwo a b
