-- Who waits, and since when: the words of request 106, with no mixer in them. Each strip's wait is
-- told from what is seen of the calls, by its own requests and the turns that name it. Assumes
-- nothing.
use Rattle.std.specs.Prelude.{cond, List, [], ◌∷◌, ℕ, ◌+◌, eqb}

-- what is seen of a call: a strip has asked, or a turn has named a strip, or nobody
pub data Event : Type 0 where
  asked : ℕ → Event
  named : ℕ → Event
  nobody : Event

-- ---- the wait of one strip

-- a strip does not wait, or its present wait began with the call of this number
pub data Wait : Type 0 where
  none : Wait
  since : ℕ → Wait

-- "A strip that asks twice before its turn waits once": the first request began the wait
abbrev pub begun : ℕ → Wait → Wait
begun call none = since call
begun call (since earlier) = since earlier

abbrev pub wait_after : ℕ → ℕ → Wait → Event → Wait
wait_after strip call wait (asked other) = cond (eqb other strip) (begun call wait) wait
wait_after strip call wait (named other) = cond (eqb other strip) none wait
wait_after strip call wait nobody = wait

-- after events of which the first is that of call number `call`
unfoldable pub wait_from : ℕ → ℕ → Wait → List Event → Wait
wait_from strip call wait [] = wait
wait_from strip call wait (event ∷ events) =
    wait_from strip (call + 1) (wait_after strip call wait event) events

-- from the beginning, where nobody waits; the first call has number 0
abbrev pub wait_of : ℕ → List Event → Wait
wait_of strip events = wait_from strip 0 none events

-- ---- the turns

-- what the turns have named, in order
unfoldable pub turns_of : List Event → List Event
turns_of [] = []
turns_of (asked strip ∷ events) = turns_of events
turns_of (named strip ∷ events) = named strip ∷ turns_of events
turns_of (nobody ∷ events) = nobody ∷ turns_of events

-- "the number of turns that found someone waiting": they are those that named a strip
abbrev pub one : Event → ℕ
one (asked strip) = 0
one (named strip) = 1
one nobody = 0

unfoldable pub found : List Event → ℕ
found [] = 0
found (event ∷ events) = found events + one event
