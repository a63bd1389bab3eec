-- What a turn answers, by whether anyone waits. Assumes nothing.
use mathlib.Core.Path.{◌≡◌, ap, ◌∙◌}
use mathlib.Core.List.{[], ◌∷◌}
use Rattle.std.specs.Prelude.{Some, None}
use Prim.Native.Nat.{◌<◌}
use native.Mathlib.Omega.{arith}
use lib.ListN.{length, get_or, take, drop}
use lib.Seq.{length-take-le, drop-cons, get_or-take}
use Rattle.mixer.specs.declared.Mixer.{Mixer}
use Rattle.mixer.specs.Mixers.{strip_count, held_in, line, first_waiting, turn_names, turned_by}
use Rattle.mixer.specs.Mixers.{without_first, mixer_turned}

module _ (mixer : Mixer) where
  pub line-none : held_in mixer ≡ 0 → line mixer ≡ []
  line-none e = ap (λ n. take n mixer.strips) e

  pub line-some :
      length mixer.strips ≡ strip_count → 0 < held_in mixer
      → line mixer ≡ get_or mixer.strips 0 0 ∷ drop 1 (line mixer)
  line-some whole some =
      let n = length-take-le (held_in mixer) mixer.strips (omega (arith, whole)) in
      drop-cons (line mixer) 0 0 (omega (arith, n))
      ∙ ap (λ strip. strip ∷ drop 1 (line mixer))
      (get_or-take (held_in mixer) mixer.strips 0 0 some)

  -- with nobody waiting
  pub names-nobody : held_in mixer ≡ 0 → turn_names mixer ≡ None
  names-nobody e = ap first_waiting (line-none e)

  pub turned-nobody : held_in mixer ≡ 0 → mixer_turned mixer ≡ mixer
  turned-nobody e = ap (λ named. turned_by named mixer) (names-nobody e)

  -- with someone waiting
  pub names-first :
      length mixer.strips ≡ strip_count → 0 < held_in mixer
      → turn_names mixer ≡ Some (get_or mixer.strips 0 0)
  names-first whole some = ap first_waiting (line-some whole some)

  pub turned-first :
      length mixer.strips ≡ strip_count → 0 < held_in mixer → mixer_turned mixer ≡ without_first mixer
  turned-first whole some = ap (λ named. turned_by named mixer) (names-first whole some)
