-- Two answers with one reply are the same answer, so a contract on the reply says all of what a
-- call returns. Assumes nothing.
use mathlib.Core.Path.{◌≡◌, refl, ap, sym, ◌∙◌}
use mathlib.Core.Bool.{cond}
use Prim.Native.Nat.{ℕ}
use lib.Dec.{eqb}
use lib.Ieee.{Float}
use Rattle.std.specs.Prelude.{Result, Ok, Err}
use Rattle.answer.specs.declared.Answer.{Answer}
use Rattle.answer.specs.declared.Answer.TheVariants as answer
use Rattle.answer.specs.declared.CoherentGains.{CoherentGains}
use Rattle.answer.specs.declared.Reason.{Reason}
use Rattle.answer.specs.declared.Reason.TheVariants as reason
use Rattle.answer.specs.declared.Refusal.{Refusal}
use Rattle.answer.specs.Reply.{number, number_in, number_of, place, place_in, of_refusal, of_answer, of_outcome, of_prepared}

-- the reason that has a number
abbrev with_number : ℕ → Reason
with_number n =
    cond (eqb n 1) reason.SizeOrRate
    (cond (eqb n 2) reason.Setting
    (cond (eqb n 3) reason.VoiceCount
    (cond (eqb n 4) reason.Length
    (cond (eqb n 5) reason.Voice
    (cond (eqb n 6) reason.TableEntry
    (cond (eqb n 7) reason.ListValue
    (cond (eqb n 8) reason.Overlap
    (cond (eqb n 9) reason.Record
    (cond (eqb n 10) reason.Id reason.Strip)))))))))

named : (a : Reason) → with_number (number_of a) ≡ a
named reason.SizeOrRate = refl
named reason.Setting = refl
named reason.VoiceCount = refl
named reason.Length = refl
named reason.Voice = refl
named reason.TableEntry = refl
named reason.ListValue = refl
named reason.Overlap = refl
named reason.Record = refl
named reason.Id = refl
named reason.Strip = refl

-- no two reasons have one number
pub same_reason : (a b : Reason) → number_of a ≡ number_of b → a ≡ b
same_reason a b e = sym (named a) ∙ ap with_number e ∙ named b

made : (r s : Reason) (p q : ℕ) → r ≡ s → p ≡ q → ◌≡◌ {A = Refusal} (record { reason = r; place = p }) (record { reason = s; place = q })
made r s p q e f = cc

pub same_refusal : (a b : Refusal) → of_refusal a ≡ of_refusal b → a ≡ b
same_refusal a b e =
    let n : number_of a.reason ≡ number_of b.reason = cc in
    let p : a.place ≡ b.place = cc in
    made a.reason b.reason a.place b.place (same_reason a.reason b.reason n) p

pub same_answer : (a b : Answer) → of_answer a ≡ of_answer b → a ≡ b
same_answer (answer.Gain g) (answer.Gain h) e = cc
same_answer (answer.Gain g) (answer.Refused n p) e = cc
same_answer (answer.Refused n p) (answer.Gain g) e = cc
same_answer (answer.Refused n p) (answer.Refused m q) e =
    let r : number_of n ≡ number_of m = cc in
    let s = same_reason n m r in
    cc

pub same_outcome : (a b : Result (Unit {0}) Refusal) → of_outcome a ≡ of_outcome b → a ≡ b
same_outcome (Ok u) (Ok v) e = refl
same_outcome (Ok u) (Err s) e = cc
same_outcome (Err r) (Ok v) e = cc
same_outcome (Err r) (Err s) e = ap Err (same_refusal r s e)

gains : (g h i j : Float) → g ≡ h → i ≡ j → ◌≡◌ {A = CoherentGains} (record { window = g; smooth_window = i }) (record { window = h; smooth_window = j })
gains g h i j e f = cc

pub same-prepared : (a b : Result CoherentGains Refusal) → of_prepared a ≡ of_prepared b → a ≡ b
same-prepared (Ok g) (Ok h) e =
    let w : g.window ≡ h.window = cc in
    let s : g.smooth_window ≡ h.smooth_window = cc in
    ap Ok (gains g.window h.window g.smooth_window h.smooth_window w s)
same-prepared (Ok g) (Err s) e = cc
same-prepared (Err r) (Ok h) e = cc
same-prepared (Err r) (Err s) e = ap Err (same_refusal r s e)

-- ---- they are the reply's
pub number-in-outcome : (o : Result (Unit {0}) Refusal) → number_in o ≡ number (of_outcome o)
number-in-outcome (Ok u) = refl
number-in-outcome (Err r) = refl

pub place-in-outcome : (o : Result (Unit {0}) Refusal) → place_in o ≡ place (of_outcome o)
place-in-outcome (Ok u) = refl
place-in-outcome (Err r) = refl

pub number-in-prepared : (p : Result CoherentGains Refusal) → number_in p ≡ number (of_prepared p)
number-in-prepared (Ok g) = refl
number-in-prepared (Err r) = refl

pub place-in-prepared : (p : Result CoherentGains Refusal) → place_in p ≡ place (of_prepared p)
place-in-prepared (Ok g) = refl
place-in-prepared (Err r) = refl
