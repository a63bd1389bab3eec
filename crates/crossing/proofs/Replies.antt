-- What is given and what is left in a slice for a reply is so for an equal one. Assumes nothing.
use mathlib.Core.Path.{◌≡◌, subst}
use mathlib.Core.List.{List}
use Prim.Native.Nat.{ℕ}
use lib.Ieee.{Float}
use Rattle.answer.specs.Reply.{Reply}
use Rattle.answer.specs.Written.{written}
use Rattle.crossing.specs.Given.{Given, GivenValue, GivenValues}

pub given : {a b : Reply} {r p q : ℕ} → a ≡ b → Given a r p q → Given b r p q
given {a} {b} {r} {p} {q} e g = subst (λ reply. Given reply r p q) e g

pub given-value : {a b : Reply} {r p q : ℕ} {x y : Float} → a ≡ b → GivenValue a r p q x y → GivenValue b r p q x y
given-value {a} {b} {r} {p} {q} {x} {y} e g = subst (λ reply. GivenValue reply r p q x y) e g

pub given-values : {a b : Reply} {r p q : ℕ} {x y v w : Float} → a ≡ b → GivenValues a r p q x y v w → GivenValues b r p q x y v w
given-values {a} {b} {r} {p} {q} {x} {y} {v} {w} e g = subst (λ reply. GivenValues reply r p q x y v w) e g

pub left : (new old : List Float) {a b : Reply} {xs : List Float} → a ≡ b → xs ≡ written a new old → xs ≡ written b new old
left new old {a} {b} {xs} e g = subst (λ reply. xs ≡ written reply new old) e g
