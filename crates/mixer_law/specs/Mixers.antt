-- Lists of calls on a mixer: the mixer that they hand back in the end, and what is seen of them.
-- Assumes nothing.
use Rattle.std.specs.Prelude.{List, [], ◌∷◌, Option, Some, None, ℕ}
use Rattle.mixer.specs.declared.Mixer.{Mixer}
use Rattle.mixer.specs.Mixers.{fresh, mixer_asked, turn_names, mixer_turned}
use Rattle.mixer_law.specs.Calls.{Call, request, turn}
use Rattle.mixer_law.specs.Waits.{Event, asked, named, nobody}

-- the mixer that `request` and `turn` hand back; `serve` hands back that of `turn`
abbrev pub stepped : Mixer → Call → Mixer
stepped mixer (request strip) = mixer_asked mixer strip
stepped mixer turn = mixer_turned mixer

unfoldable pub run : Mixer → List Call → Mixer
run mixer [] = mixer
run mixer (call ∷ calls) = run (stepped mixer call) calls

-- what is seen
abbrev pub told : Option ℕ → Event
told (Some strip) = named strip
told None = nobody

abbrev pub event_of : Mixer → Call → Event
event_of mixer (request strip) = asked strip
event_of mixer turn = told (turn_names mixer)

unfoldable pub events_from : Mixer → List Call → List Event
events_from mixer [] = []
events_from mixer (call ∷ calls) = event_of mixer call ∷ events_from (stepped mixer call) calls

-- ---- from a fresh mixer
abbrev pub after : List Call → Mixer
after calls = run fresh calls

abbrev pub events : List Call → List Event
events calls = events_from fresh calls
