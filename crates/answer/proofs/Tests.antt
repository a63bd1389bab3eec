-- A reply is a chain of tests in the order of their numbers. Each law takes one test of the chain,
-- as the code makes it, and either ends there with that test's refusal or goes on to what follows.
-- Assumes nothing.
use mathlib.Core.Path.{◌≡◌, sym, ap, ◌∙◌}
use mathlib.Core.Bool.{Bool, true, false, cond, not}
use mathlib.Core.List.{List}
use Prim.Native.Nat.{ℕ, ◌≤◌, ◌<◌}
use lib.Dec.{eqb, ltb}
use borrow.Author.Tests.{not-true, not-false, eq-eqb, ne_eqb, lt-ltb, le-ltb}
use native.Mathlib.Omega.{arith}
use lib.Ieee.{Float}
use Rattle.std.specs.Prelude.{Result}
use Rattle.std.specs.Result.{IsErrAnd}
use Rattle.std.proofs.lemmas.Result.{err_from_is_err_and}
use Rattle.answer.specs.declared.Refusal.{Refusal}
use Rattle.answer.specs.Reply.{Reply, done, refused, of_refusal, of_outcome}

-- a bool that a callee answers
pub fails : {b r : Bool} (x y : Reply) → r ≡ b → not r ≡ true → x ≡ cond (not b) x y
fails {b} {r} x y e h = let f : b ≡ false = sym e ∙ not-true r h in rw f

pub passes : {b r : Bool} {z : Reply} (x y : Reply) → r ≡ b → not r ≡ false → z ≡ y → z ≡ cond (not b) x y
passes {b} {r} x y e h k = let f : b ≡ true = sym e ∙ not-false r h in rw f k

-- two lengths
pub differ : {m n : ℕ} (x y : Reply) → (m ≡ n → ⊥) → x ≡ cond (not (eqb m n)) x y
differ {m} {n} x y h = rw (ne_eqb m n h)

pub agree : {m n : ℕ} {z : Reply} (x y : Reply) → m ≡ n → z ≡ y → z ≡ cond (not (eqb m n)) x y
agree {m} {n} x y h k = rw (eq-eqb m n h) k

-- an index that a search answers, in a list of n entries
pub found : {index r n : ℕ} (number : ℕ) (y : Reply) → r ≡ index → r < n → refused number r ≡ cond (ltb index n) (refused number index) y
found {index} {r} {n} number y e h = rw (← e, lt-ltb r n h)

pub none_found : {index r n : ℕ} {z : Reply} (x y : Reply) → r ≡ index → n ≤ r → z ≡ y → z ≡ cond (ltb index n) x y
none_found {index} {r} {n} x y e h k = rw (← e, le-ltb r n h) k

-- a refusal is not done
pub no-refusal : {number place : ℕ} {values : List Float} {P : Type 0} → refused number place ≡ done values → P
no-refusal e = let z : ◌≡◌ {A = ℕ} 0 1 = cc in absurd (omega arith)

-- a `?` passes the refusal on as it is
pub passed-on : (outcome : Result (Unit {0}) Refusal) (refusal : Refusal) → IsErrAnd outcome (λ passed. passed ≡ refusal) → of_outcome outcome ≡ of_refusal refusal
passed-on outcome refusal e =
    let p = err_from_is_err_and outcome e in
    ap of_outcome p.1 ∙ ap of_refusal p.2
