-- The counter: each turn that names a strip adds one, as long as it is below its highest value.
-- Assumes nothing.
use mathlib.Core.Path.{◌≡◌, sym, ◌∙◌}
use mathlib.Core.List.{List, [], ◌∷◌}
use Prim.Native.Nat.{ℕ, ◌+◌, ◌<◌}
use native.Mathlib.Nat.{add-zero}
use native.Mathlib.Omega.{arith}
use Rattle.std.specs.Prelude.{Option, Some, None}
use Rattle.mixer.specs.declared.Mixer.{Mixer}
use Rattle.mixer.specs.Mixers.{most_turns, fresh, mixer_asked, turn_names, mixer_turned}
use Rattle.mixer_law.specs.Calls.{Call, request, turn, turns}
use Rattle.mixer_law.specs.Waits.{found, one}
use Rattle.mixer_law.specs.Mixers.{run, told, events_from}
use Rattle.mixer_law.specs.Promises.{Counts, StaysAtItsHighest}
use Rattle.mixer_law.proofs.Lines.{served-asked, tallied, served-turned}

-- from any mixer whose counter has room for the turns to come
counts-from :
    (calls : List Call) (mixer : Mixer) → mixer.served + turns calls < 18446744073709551616
    → (run mixer calls).served ≡ mixer.served + found (events_from mixer calls)
unfolding run events_from turns found
counts-from [] mixer h = sym (add-zero mixer.served)
counts-from (request strip ∷ calls) mixer h =
    let e = served-asked mixer strip in
    let r = counts-from calls (mixer_asked mixer strip) (omega arith) in
    omega arith
counts-from (turn ∷ calls) mixer h =
    go (turn_names mixer) (served-turned mixer) (counts-from calls (mixer_turned mixer))
  where
    after : ℕ
    after = (run (mixer_turned mixer) calls).served

    later : ℕ
    later = found (events_from (mixer_turned mixer) calls)

    go :
        (named : Option ℕ) → (mixer_turned mixer).served ≡ tallied mixer named
        → ((mixer_turned mixer).served + turns calls < 18446744073709551616
        → after ≡ (mixer_turned mixer).served + later)
        → after ≡ mixer.served + (later + one (told named))
    go (Some strip) e r = omega (arith, e, r (omega (arith, e)))
    go None e r = omega (arith, e, r (omega (arith, e)))

pub counts : Counts
counts calls h = counts-from calls fresh (omega arith) ∙ omega arith

-- ---- at its highest value
stays-asked : (mixer : Mixer) (strip : ℕ) → mixer.served ≡ most_turns
    → (mixer_asked mixer strip).served ≡ most_turns
stays-asked mixer strip h = served-asked mixer strip ∙ h

stays-turned : (mixer : Mixer) → mixer.served ≡ most_turns
    → (mixer_turned mixer).served ≡ most_turns
stays-turned mixer h = served-turned mixer ∙ go (turn_names mixer)
  where
    go : (named : Option ℕ) → tallied mixer named ≡ most_turns
    go (Some strip) = omega (arith, h)
    go None = h

pub stays-at-its-highest : StaysAtItsHighest
unfolding run
stays-at-its-highest mixer [] h = h
stays-at-its-highest mixer (request strip ∷ calls) h =
    stays-at-its-highest (mixer_asked mixer strip) calls (stays-asked mixer strip h)
stays-at-its-highest mixer (turn ∷ calls) h =
    stays-at-its-highest (mixer_turned mixer) calls (stays-turned mixer h)
