-- A mixer of sixteen strips, in the words of request 106: what each call answers, and the mixer
-- that it hands back. A mixer that no call made may say any count, so only its first sixteen places
-- are looked at. Assumes nothing.
use Rattle.std.specs.Prelude.{Bool, false, cond, ◌||◌, List, [], ◌∷◌, ℕ, ◌+◌, ◌-◌, min, eqb, leb, take, set, replicate, Option, Some, None}
use Rattle.lists.specs.Closing.{closed}
use Rattle.answer.specs.Refusal.{STRIP}
use Rattle.answer.specs.Reply.{Reply, done, refused}
use Rattle.answer.specs.Written.{written}
use Rattle.mixer.specs.declared.Mixer.{Mixer}

-- "strips 0 to 15"
abbrev pub strip_count : ℕ
strip_count = 16

-- "One 64-bit counter": its highest value
abbrev pub most_turns : ℕ
most_turns = 18446744073709551615

-- the mixer that a list of calls begins with
abbrev pub fresh : Mixer
fresh = record { strips = replicate strip_count 0; count = 0; served = 0 }

-- how many places count
abbrev pub held_in : Mixer → ℕ
held_in mixer = min mixer.count strip_count

-- the strips that wait, the one that has waited longest first
abbrev pub line : Mixer → List ℕ
line mixer = take (held_in mixer) mixer.strips

-- whether a strip is in a line
unfoldable pub has : ℕ → List ℕ → Bool
has strip [] = false
has strip (other ∷ others) = eqb other strip || has strip others

-- ---- a request

-- "A strip above 15 is refusal 11, before all others"
abbrev pub request_reply : ℕ → Reply
request_reply strip = cond (leb strip_count strip) (refused STRIP 0) (done [])

-- the strip comes after those that wait
abbrev pub with_strip : Mixer → ℕ → Mixer
with_strip mixer strip =
    record {
      strips = set mixer.strips (held_in mixer) strip;
      count = held_in mixer + 1;
      served = mixer.served;
    }

-- "A strip that asks twice before its turn waits once". A line of sixteen without the strip, which
-- no call makes, stays as it is.
abbrev pub with_request : Mixer → ℕ → Mixer
with_request mixer strip =
    cond (has strip (line mixer)) mixer
    (cond (leb strip_count (held_in mixer)) mixer
    (with_strip mixer strip))

abbrev pub mixer_asked : Mixer → ℕ → Mixer
mixer_asked mixer strip = written (request_reply strip) (with_request mixer strip) mixer

-- ---- a turn

-- "a turn names the strip that has waited longest", and with nobody waiting it "names none"
abbrev pub first_waiting : List ℕ → Option ℕ
first_waiting [] = None
first_waiting (strip ∷ others) = Some strip

abbrev pub turn_names : Mixer → Option ℕ
turn_names mixer = first_waiting (line mixer)

-- "at its highest value it stays"
abbrev pub counted : ℕ → ℕ
counted served = min (served + 1) most_turns

-- "takes it off": each strip behind it moves into the place before its own
abbrev pub without_first : Mixer → Mixer
without_first mixer =
    record {
      strips = closed 0 0 (held_in mixer - 1) mixer.strips;
      count = held_in mixer - 1;
      served = counted mixer.served;
    }

-- "A turn with nobody waiting .. changes nothing"
abbrev pub turned_by : Option ℕ → Mixer → Mixer
turned_by (Some strip) mixer = without_first mixer
turned_by None mixer = mixer

abbrev pub mixer_turned : Mixer → Mixer
mixer_turned mixer = turned_by (turn_names mixer) mixer
