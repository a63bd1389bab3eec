-- When a strip is named at the latest: one behind others is named in the turn after theirs, since a
-- request puts nobody before it and a turn takes off the first. Fewer than sixteen are before it.
-- Assumes nothing.
use mathlib.Core.Path.{◌≡◌, refl, sym, ap, ◌∙◌}
use mathlib.Core.Bool.{Bool, true, false, cond, ◌||◌}
use mathlib.Core.List.{List, [], ◌∷◌, ◌++◌, append_assoc}
use mathlib.Core.Logic.{inl, inr}
use Prim.Native.Nat.{ℕ, zero, suc, ◌≤◌, ◌<◌}
use native.Mathlib.Omega.{arith}
use lib.Dec.{eqb, leb}
use lib.ListN.{length, take, drop, length-append}
use borrow.Author.Tests.{eqb-true}
use Rattle.std.specs.Prelude.{Option, Some}
use Rattle.mixer.specs.declared.Mixer.{Mixer}
use Rattle.mixer.specs.Mixers.{strip_count, line, has, first_waiting, mixer_asked, turn_names, mixer_turned}
use Rattle.mixer_law.specs.Calls.{Call, request, turn, turns}
use Rattle.mixer_law.specs.Waits.{Event, named, turns_of}
use Rattle.mixer_law.specs.Mixers.{events_from, told, after}
use Rattle.mixer_law.specs.Promises.{LATEST, Among, NamedInTime}
use Rattle.mixer_law.proofs.Lines.{Whole, joined, line-length, line-asked, line-turned}
use Rattle.mixer_law.proofs.Lines.{whole-asked, whole-turned}
use Rattle.mixer_law.proofs.Entries.{waits-has}
use Rattle.mixer_law.proofs.Runs.{fits}

-- ---- a line with the strip in it: those before it, and those behind
record Split (strip : ℕ) (l : List ℕ) : Type 0 where
  before : List ℕ
  behind : List ℕ
  is : l ≡ before ++ strip ∷ behind

split : (s : ℕ) (l : List ℕ) → has s l ≡ true → Split s l
unfolding has
split s [] h = let z : ◌≡◌ {A = ℕ} 0 1 = cc in absurd (omega arith)
split s (x ∷ xs) h = go (eqb x s) refl h (split s xs)
  where
    go :
        (b : Bool) → eqb x s ≡ b → (b || has s xs) ≡ true → (has s xs ≡ true → Split s xs)
        → Split s (x ∷ xs)
    go true e h r =
        record { before = []; behind = xs; is = ap (λ y. y ∷ xs) (eqb-true x s e) }
    go false e h r =
        let p = r h in
        record { before = x ∷ p.before; behind = p.behind; is = ap (λ l. x ∷ l) p.is }

-- a request leaves the same ones before it
still :
    (l : List ℕ) (other s : ℕ) (xs ys : List ℕ) → l ≡ xs ++ s ∷ ys
    → (zs : List ℕ) × (joined l other ≡ xs ++ s ∷ zs)
still l other s xs ys e = go (leb strip_count other) (has other l) (leb strip_count (length l))
  where
    go :
        (a b c : Bool)
        → (zs : List ℕ)
        × (cond a l (cond b l (cond c l (l ++ other ∷ []))) ≡ xs ++ s ∷ zs)
    go true b c = (ys, e)
    go false true c = (ys, e)
    go false false true = (ys, e)
    go false false false =
        (ys ++ other ∷ [], ap (λ l. l ++ other ∷ []) e ∙ append_assoc xs (s ∷ ys) (other ∷ []))

-- ---- a turn that names it, and one that names another before it is named
module _ (s n : ℕ) (who : Option ℕ) (events : List Event) where
  this-turn : who ≡ Some s → Among (named s) (take (suc n) (turns_of (told who ∷ events)))
  unfolding turns_of
  this-turn e = rw e (inl refl)

  later-turn :
      (x : ℕ) → who ≡ Some x → Among (named s) (take n (turns_of events))
      → Among (named s) (take (suc n) (turns_of (told who ∷ events)))
  unfolding turns_of
  later-turn x e i = rw e (inr i)

in-turn :
    (calls : List Call) (mixer : Mixer) → Whole mixer
    → (s : ℕ) (xs ys : List ℕ) → line mixer ≡ xs ++ s ∷ ys → length xs < turns calls
    → Among (named s) (take (suc (length xs)) (turns_of (events_from mixer calls)))
unfolding turns events_from turns_of
in-turn [] mixer w s xs ys e h = absurd (omega arith)
in-turn (request other ∷ calls) mixer w s xs ys e h =
    let p = still (line mixer) other s xs ys e in
    in-turn calls (mixer_asked mixer other) (whole-asked mixer w other) s xs p.0
    (line-asked mixer w other ∙ p.1) h
in-turn (turn ∷ calls) mixer w s [] ys e h =
    this-turn s 0 (turn_names mixer) (events_from (mixer_turned mixer) calls) (ap first_waiting e)
in-turn (turn ∷ calls) mixer w s (x ∷ xs) ys e h =
    later-turn s (suc (length xs)) (turn_names mixer) (events_from (mixer_turned mixer) calls) x
    (ap first_waiting e)
    (in-turn calls (mixer_turned mixer) (whole-turned mixer w) s xs ys
    (line-turned mixer w ∙ ap (drop 1) e) (omega arith))

-- ---- among the first a, so among the first b
take_more :
    (x : Event) (a b : ℕ) (l : List Event) → a ≤ b → Among x (take a l) → Among x (take b l)
take_more x zero b l h i = absurd i
take_more x (suc a) b [] h i = absurd i
take_more x (suc a) zero (y ∷ ys) h i = absurd (omega arith)
take_more x (suc a) (suc b) (y ∷ ys) h (inl e) = inl e
take_more x (suc a) (suc b) (y ∷ ys) h (inr i) = inr (take_more x a b ys (omega arith) i)

pub named-in-time : NamedInTime
named-in-time calls more strip began l w t =
    let f = (fits calls).fit in
    let there = waits-has strip began f.entries (sym (f.known strip l) ∙ w) in
    let p = split strip (line (after calls)) (ap (has strip) f.line-is ∙ there) in
    let short : length p.before < strip_count =
    omega (
      arith,
      line-length (after calls) f.whole,
      ap length p.is,
      length-append p.before (strip ∷ p.behind),
    ) in
    take_more (named strip) (suc (length p.before)) LATEST
    (turns_of (events_from (after calls) more)) (omega (arith, short))
    (in-turn more (after calls) f.whole strip p.before p.behind p.is (omega arith))
