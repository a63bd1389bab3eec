-- `limits::size` meets its contract: a `match` on a list of numbers tests whether a number is one
-- of them. Assumes nothing.
use mathlib.Core.Path.{◌≡◌, refl}
use mathlib.Core.Logic.{inl, inr}
use mathlib.Core.Bool.{Bool, true, false, ◌||◌}
use mathlib.Core.List.{List, [], ◌∷◌}
use Prim.Native.Nat.{ℕ}
use lib.Dec.{eqb}
use types.Run.{OneOf}
use borrow.Author.Tests.{eq-eqb, ne_eqb}
use Rattle.limits.specs.Limits.{one_of}
use Rattle.limits.proofs.size.Goals as goal

or-true : (b : Bool) → (b || true) ≡ true
or-true true = refl
or-true false = refl

found : (ks : List ℕ) (n : ℕ) → OneOf ks n → true ≡ one_of ks n
found [] n h = absurd h
found (k ∷ []) n e = rw (eq-eqb n k e)
found (k ∷ j ∷ js) n (inl e) = rw (eq-eqb n k e)
found (k ∷ j ∷ js) n (inr h) = rw (← found (j ∷ js) n h, or-true (eqb n k))

missing : (ks : List ℕ) (n : ℕ) → (OneOf ks n → ⊥) → false ≡ one_of ks n
missing [] n h = refl
missing (k ∷ []) n h = rw (ne_eqb n k h)
missing (k ∷ j ∷ js) n h = rw (ne_eqb n k (λ e. h (inl e))) (missing (j ∷ js) n (λ e. h (inr e)))

abbrev sizes : List ℕ
sizes = 64 ∷ 128 ∷ 256 ∷ 512 ∷ 1024 ∷ 2048 ∷ 4096 ∷ 8192 ∷ 16384 ∷ []

pub returns-in-64 : goal.returns-in-64
returns-in-64 c = found sizes c.args.n c.in-64.is

pub returns-in_default : goal.returns-in_default
returns-in_default c = missing sizes c.args.n c.in_default.in_default-own.rest.1
