-- The bound of sixteen turns is reached: where all sixteen strips ask, one after the other, strip
-- 15 waits, and the next sixteen turns name the strips in their order, strip 15 last. Assumes
-- nothing.
use mathlib.Core.Path.{◌≡◌, refl, ap, ◌∙◌}
use mathlib.Core.List.{List, [], ◌∷◌, map}
use Prim.Native.Nat.{ℕ, zero, suc, ◌≤◌}
use native.Mathlib.Omega.{arith}
use lib.ListN.{length, take, drop, replicate}
use Rattle.std.specs.Prelude.{Option, Some}
use Rattle.lists.specs.Folds.{range}
use Rattle.mixer.specs.declared.Mixer.{Mixer}
use Rattle.mixer.specs.Mixers.{line, has, first_waiting, turn_names, mixer_turned}
use Rattle.mixer_law.specs.Calls.{Call, request, turn}
use Rattle.mixer_law.specs.Waits.{Event, named, wait_from, turns_of}
use Rattle.mixer_law.specs.Mixers.{told, run, events_from, after}
use Rattle.mixer_law.specs.Promises.{WaitsSince}
use Rattle.mixer_law.proofs.Lines.{Whole, line-turned, whole-turned}

-- turns alone name those of the line, one after the other
turns_alone :
    (n : ℕ) (mixer : Mixer) → Whole mixer → (l : List ℕ) → line mixer ≡ l → n ≤ length l
    → turns_of (events_from mixer (replicate n turn)) ≡ map named (take n l)
unfolding events_from turns_of
turns_alone zero mixer w l e h = refl
turns_alone (suc n) mixer w [] e h = absurd (omega arith)
turns_alone (suc n) mixer w (x ∷ xs) e h =
    first (turn_names mixer) (ap first_waiting e)
    (turns_alone n (mixer_turned mixer) (whole-turned mixer w) xs
    (line-turned mixer w ∙ ap (drop 1) e) (omega arith))
  where
    later : List Event
    later = events_from (mixer_turned mixer) (replicate n turn)

    first :
        (who : Option ℕ) → who ≡ Some x → turns_of later ≡ map named (take n xs)
        → turns_of (told who ∷ later) ≡ named x ∷ map named (take n xs)
    first who e r = rw e (ap (λ (l : List Event). named x ∷ l) r)

abbrev pub all_ask : List Call
all_ask = map request (range 0 16)

pub last-waits : WaitsSince 15 all_ask 15
unfolding range run events_from wait_from has
last-waits = refl

all-wait : line (after all_ask) ≡ range 0 16
unfolding range run has
all-wait = refl

whole : Whole (after all_ask)
unfolding range run has
whole = refl

pub in_order :
    turns_of (events_from (after all_ask) (replicate 16 turn)) ≡ map named (range 0 16)
unfolding range
in_order = turns_alone 16 (after all_ask) whole (range 0 16) all-wait (omega arith)
