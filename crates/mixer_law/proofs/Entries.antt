-- Those who wait as a list of entries, in the order in which they asked: a strip, and the number of
-- the call with which its wait began. What a request and a turn do to the wait of each strip.
-- Assumes nothing.
use mathlib.Core.Path.{◌≡◌, refl, sym, ◌∙◌}
use mathlib.Core.Bool.{Bool, true, false, cond, ◌||◌}
use mathlib.Core.List.{List, [], ◌∷◌, ◌++◌, map}
use Prim.Native.Nat.{ℕ, ◌+◌, ◌≤◌, ◌<◌}
use native.Mathlib.Omega.{arith}
use lib.Dec.{eqb}
use lib.ListN.{drop}
use borrow.Author.Tests.{eqb-true, ne_eqb}
use Rattle.lists.specs.Totals.{All, all_append}
use Rattle.mixer.specs.Mixers.{has}
use Rattle.mixer_law.specs.Waits.{Wait, none, since, begun, wait_after, asked, named}

pub record Entry : Type 0 where
  pub strip : ℕ
  pub began : ℕ

abbrev pub entry : ℕ → ℕ → Entry
entry strip began = record { strip = strip; began = began }

abbrev pub strips : List Entry → List ℕ
strips es = map (λ e. e.strip) es

-- ---- each began after those before it, and all before now
unfoldable pub Rising : List Entry → Type 0
Rising [] = Unit
Rising (e ∷ es) = All (λ f. e.began < f.began) es × Rising es

abbrev pub Past : ℕ → List Entry → Type 0
Past now es = All (λ e. e.began < now) es

pub rising-last :
    (es : List Entry) (strip now : ℕ) → Rising es → Past now es
    → Rising (es ++ entry strip now ∷ [])
unfolding Rising
rising-last [] strip now r p = (tt, tt)
rising-last (e ∷ es) strip now r p = (
  all_append (λ f. e.began < f.began) es (entry strip now ∷ []) r.0 (p.0, tt),
  rising-last es strip now r.1 p.1,
)

pub rising-drop : (es : List Entry) → Rising es → Rising (drop 1 es)
unfolding Rising
rising-drop [] r = tt
rising-drop (e ∷ es) r = r.1

pub past-later : (now : ℕ) (es : List Entry) → Past now es → Past (now + 1) es
past-later now [] p = tt
past-later now (e ∷ es) p = (omega (arith, p.0), past-later now es p.1)

pub strips-drop : (es : List Entry) → strips (drop 1 es) ≡ drop 1 (strips es)
strips-drop [] = refl
strips-drop (e ∷ es) = refl

-- ---- the wait of a strip, looked up
unfoldable pub look : ℕ → List Entry → Wait
look strip [] = none
look strip (e ∷ es) = cond (eqb e.strip strip) (since e.began) (look strip es)

pub look_none : (s : ℕ) (es : List Entry) → has s (strips es) ≡ false → look s es ≡ none
unfolding look has
look_none s [] h = refl
look_none s (e ∷ es) h = go (eqb e.strip s) h (look_none s es)
  where
    go :
        (b : Bool) → (b || has s (strips es)) ≡ false
        → (has s (strips es) ≡ false → look s es ≡ none)
        → cond b (since e.began) (look s es) ≡ none
    go true h r = let z : ◌≡◌ {A = ℕ} 0 1 = cc in absurd (omega arith)
    go false h r = r h

pub waits-has : (s u : ℕ) (es : List Entry) → look s es ≡ since u → has s (strips es) ≡ true
unfolding look has
waits-has s u [] h = let z : ◌≡◌ {A = ℕ} 0 1 = cc in absurd (omega arith)
waits-has s u (e ∷ es) h = go (eqb e.strip s) h (waits-has s u es)
  where
    go :
        (b : Bool) → cond b (since e.began) (look s es) ≡ since u
        → (look s es ≡ since u → has s (strips es) ≡ true)
        → (b || has s (strips es)) ≡ true
    go true h r = refl
    go false h r = r h

-- what holds of the beginning of every entry holds of what is looked up
pub look-all :
    (P : ℕ → Type 0) (s u : ℕ) (es : List Entry) → All (λ e. P e.began) es
    → look s es ≡ since u → P u
unfolding look
look-all P s u [] a h = let z : ◌≡◌ {A = ℕ} 0 1 = cc in absurd (omega arith)
look-all P s u (e ∷ es) a h = go (eqb e.strip s) h (look-all P s u es a.1)
  where
    go :
        (b : Bool) → cond b (since e.began) (look s es) ≡ since u
        → (look s es ≡ since u → P u) → P u
    go true h r = let z : e.began ≡ u = cc in rw z at a.0
    go false h r = r h

-- ---- a request

-- of a strip that waits already
begun-again : (now s : ℕ) (es : List Entry) → has s (strips es) ≡ true
    → begun now (look s es) ≡ look s es
unfolding look has
begun-again now s [] h = let z : ◌≡◌ {A = ℕ} 0 1 = cc in absurd (omega arith)
begun-again now s (e ∷ es) h = go (eqb e.strip s) h (begun-again now s es)
  where
    go :
        (b : Bool) → (b || has s (strips es)) ≡ true
        → (has s (strips es) ≡ true → begun now (look s es) ≡ look s es)
        → begun now (cond b (since e.began) (look s es))
        ≡ cond b (since e.began) (look s es)
    go true h r = refl
    go false h r = r h

pub asked-again :
    (now s other : ℕ) (es : List Entry) → has other (strips es) ≡ true
    → wait_after s now (look s es) (asked other) ≡ look s es
asked-again now s other es h = go (eqb other s) refl
  where
    go : (b : Bool) → eqb other s ≡ b → cond b (begun now (look s es)) (look s es) ≡ look s es
    go true e = begun-again now s es (rw (eqb-true other s e) at h)
    go false e = refl

-- of a strip that does not
abbrev or_else : Wait → Wait → Wait
or_else none w = w
or_else (since u) w = since u

or-none : (w : Wait) → or_else w none ≡ w
or-none none = refl
or-none (since u) = refl

look-last :
    (s : ℕ) (es : List Entry) (e : Entry)
    → look s (es ++ e ∷ []) ≡ or_else (look s es) (cond (eqb e.strip s) (since e.began) none)
unfolding look
look-last s [] e = refl
look-last s (f ∷ es) e = go (eqb f.strip s) (look-last s es e)
  where
    new : Wait
    new = cond (eqb e.strip s) (since e.began) none

    go :
        (b : Bool) → look s (es ++ e ∷ []) ≡ or_else (look s es) new
        → cond b (since f.began) (look s (es ++ e ∷ []))
        ≡ or_else (cond b (since f.began) (look s es)) new
    go true r = refl
    go false r = r

pub asked-first :
    (now s other : ℕ) (es : List Entry) → has other (strips es) ≡ false
    → wait_after s now (look s es) (asked other) ≡ look s (es ++ entry other now ∷ [])
asked-first now s other es h = go (eqb other s) refl ∙ sym (look-last s es (entry other now))
  where
    go :
        (b : Bool) → eqb other s ≡ b
        → cond b (begun now (look s es)) (look s es)
        ≡ or_else (look s es) (cond b (since now) none)
    go true e = rw (look_none s es (rw (eqb-true other s e) at h))
    go false e = sym (or-none (look s es))

-- of a strip above 15, which is refused
pub asked-above :
    (now s other : ℕ) (w : Wait) → s < 16 → 16 ≤ other → wait_after s now w (asked other) ≡ w
asked-above now s other w l h = rw (ne_eqb other s (λ e. omega arith))

-- ---- a turn that names the first, who does not wait a second time
pub named-first :
    (now s : ℕ) (e : Entry) (es : List Entry) → has e.strip (strips es) ≡ false
    → wait_after s now (look s (e ∷ es)) (named e.strip) ≡ look s es
unfolding look
named-first now s e es h = go (eqb e.strip s) refl
  where
    go :
        (b : Bool) → eqb e.strip s ≡ b
        → cond b none (cond b (since e.began) (look s es)) ≡ look s es
    go true f = sym (look_none s es (rw (eqb-true e.strip s f) at h))
    go false f = refl
