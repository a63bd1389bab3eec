-- What request 106 promises of every list of calls from a fresh mixer. Assumes nothing.
use Rattle.std.specs.Prelude.{◌≡◌, ◌⊎◌, List, [], ◌∷◌, ℕ, ◌^◌, ◌≤◌, ◌<◌, take, Float, Some, None}
use Rattle.answer.specs.Reply.{Reply}
use Rattle.answer.specs.Written.{written}
use Rattle.scene.specs.declared.Scene.{Scene}
use Rattle.lobes.specs.Pan.{Side}
use Rattle.mixer.specs.declared.Mixer.{Mixer}
use Rattle.mixer.specs.Mixers.{strip_count, most_turns, mixer_asked, turn_names, mixer_turned}
use Rattle.mixer_masks.specs.Serving.{scene_reply, scene_mask, scene_at, named_reply, named_mask}
use Rattle.mixer_law.specs.Calls.{Call, turns}
use Rattle.mixer_law.specs.Waits.{Event, named, none, since, wait_of, turns_of, found}
use Rattle.mixer_law.specs.Mixers.{run, events_from, after, events}

-- the strip's present wait, after these calls, began with the call of this number
abbrev pub WaitsSince : ℕ → List Call → ℕ → Type 0
WaitsSince strip calls began = wait_of strip (events calls) ≡ since began

-- none of the strips waits
abbrev pub NobodyWaits : List Call → Type 0
NobodyWaits calls = (strip : ℕ) → strip < strip_count → wait_of strip (events calls) ≡ none

-- ---- "a turn names the strip that has waited longest"

-- a strip that waits, and whose wait began at an earlier call than that of every other that waits
pub record Longest (calls : List Call) (strip : ℕ) : Type 0 where
  pub of-sixteen : strip < strip_count
  pub began : ℕ
  pub waits : WaitsSince strip calls began
  pub longest :
      (other later : ℕ) → other < strip_count → (other ≡ strip → ⊥) → WaitsSince other calls later
      → began < later

abbrev pub NamesTheLongest : Type 0
NamesTheLongest =
    (calls : List Call) (strip : ℕ) → turn_names (after calls) ≡ Some strip → Longest calls strip

-- ---- "that strip's scene then goes to the stereo call"

-- what `serve` answers, and what it leaves in the slice of one side, where these calls led to the
-- mixer: the stereo call's, on the scene of the strip that has waited longest
pub record Serves
    (calls : List Call) (strip : ℕ) (m n : ℕ) (curve : List Float) (scenes : List Scene)
    (table : List Float) : Type 0
  where
    pub reply :
        named_reply (λ s. scene_reply m n curve (scene_at scenes s) table) (turn_names (after calls))
        ≡ scene_reply m n curve (scene_at scenes strip) table
    pub mask :
        (side : Side) (reply : Reply) (old : List Float)
        → named_mask (λ s. scene_mask side curve (scene_at scenes s) table) (turn_names (after calls))
        reply old
        ≡ written reply (scene_mask side curve (scene_at scenes strip) table) old

abbrev pub ServesTheNamed : Type 0
ServesTheNamed =
    (calls : List Call) (strip : ℕ) → turn_names (after calls) ≡ Some strip
    → (m n : ℕ) (curve : List Float) (scenes : List Scene) (table : List Float)
    → Serves calls strip m n curve scenes table

-- ---- "A strip that asks twice before its turn waits once": asking again changes nothing
abbrev pub AskingAgainChangesNothing : Type 0
AskingAgainChangesNothing =
    (calls : List Call) (strip began : ℕ) → strip < strip_count → WaitsSince strip calls began
    → mixer_asked (after calls) strip ≡ after calls

-- ---- "No matter what the others file, a waiting strip is named at the latest in the sixteenth
-- turn after its present wait began"

-- "the sixteenth turn"
abbrev pub LATEST : ℕ
LATEST = 16

abbrev pub Among : Event → List Event → Type 0
Among event [] = ⊥
Among event (other ∷ others) = (other ≡ event) ⊎ Among event others

-- after the calls the strip waits, as it does from the request on with which its wait began; `more`
-- are any calls from then on
abbrev pub NamedInTime : Type 0
NamedInTime =
    (calls more : List Call) (strip began : ℕ) → strip < strip_count → WaitsSince strip calls began
    → LATEST ≤ turns more
    → Among (named strip) (take LATEST (turns_of (events_from (after calls) more)))

-- ---- "A turn with nobody waiting names none and changes nothing"
abbrev pub NobodyNamed : Type 0
NobodyNamed =
    (calls : List Call) → NobodyWaits calls
    → (turn_names (after calls) ≡ None) × (mixer_turned (after calls) ≡ after calls)

-- and no other turn names none
abbrev pub NobodyOnlyThen : Type 0
NobodyOnlyThen = (calls : List Call) → turn_names (after calls) ≡ None → NobodyWaits calls

-- ---- "One 64-bit counter, for every list of requests and turns from a fresh mixer with fewer than
-- 2^64 turns, equals the number of turns that found someone waiting"
abbrev pub Counts : Type 0
Counts = (calls : List Call) → turns calls < 2 ^ 64 → (after calls).served ≡ found (events calls)

-- "at its highest value it stays": of every mixer, also one that no call made
abbrev pub StaysAtItsHighest : Type 0
StaysAtItsHighest =
    (mixer : Mixer) (calls : List Call) → mixer.served ≡ most_turns
    → (run mixer calls).served ≡ most_turns
