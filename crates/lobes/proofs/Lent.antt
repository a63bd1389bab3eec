-- What is so of a table if one was lent, used where one was and made of something else that is so
-- of it. Assumes nothing.
use mathlib.Core.Path.{◌≡◌, refl, subst}
use mathlib.Core.List.{List}
use lib.Ieee.{Float}
use Rattle.lobes.specs.Distance.{Logs, lent, none, IfLent}

pub lent-at : (P : List Float → Type 0) {logs : Logs} {table : List Float} → logs ≡ lent table → IfLent logs P → P table
unfolding IfLent
lent-at P e p = subst (λ (l : Logs). IfLent l P) e p

pub if-lent : {P Q : List Float → Type 0} (logs : Logs) → IfLent logs P → ((table : List Float) → logs ≡ lent table → P table → Q table) → IfLent logs Q
unfolding IfLent
if-lent (lent table) p f = f table refl p
if-lent none p f = tt
