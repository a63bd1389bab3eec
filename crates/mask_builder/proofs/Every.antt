-- A test of every entry, one entry after the other: it goes on past an entry that passes, ends at
-- one that fails, and passes where none is left. Assumes nothing.
use mathlib.Core.Path.{◌≡◌, ap, ◌∙◌}
use mathlib.Core.Bool.{Bool, true, false}
use mathlib.Core.List.{List, [], ◌∷◌}
use Prim.Native.Nat.{ℕ, ◌+◌}
use native.Mathlib.Numerals.{add-one}
use Rattle.lists.specs.Tested.{every}

module _ {A : Type 0} (ok : ℕ → A → Bool) (i : ℕ) {l : List A} {x : A} {rest : List A} where
  pub every-step : l ≡ x ∷ rest → ok i x ≡ true → every ok i l ≡ every ok (i + 1) rest
  every-step e h = ap (every ok i) e ∙ rw h (rw (add-one i))

  pub every-stop : l ≡ x ∷ rest → ok i x ≡ false → every ok i l ≡ false
  every-stop e h = ap (every ok i) e ∙ rw h

pub every-end : {A : Type 0} (ok : ℕ → A → Bool) (i : ℕ) {l : List A} → l ≡ [] → every ok i l ≡ true
every-end ok i e = ap (every ok i) e
