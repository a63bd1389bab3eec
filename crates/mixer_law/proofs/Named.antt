-- Who is named: the first entry, which began first. Assumes nothing.
use mathlib.Core.Path.{◌≡◌, refl, sym, ap, ◌∙◌}
use mathlib.Core.List.{List, [], ◌∷◌}
use Prim.Native.Nat.{ℕ, ◌<◌}
use native.Mathlib.Omega.{arith}
use borrow.Author.Tests.{eq-eqb, ne_eqb, lt-leb}
use Rattle.std.specs.Prelude.{Some, None}
use Rattle.mixer.specs.Mixers.{strip_count, first_waiting, turn_names, turned_by}
use Rattle.mixer_law.specs.Calls.{Call}
use Rattle.mixer_law.specs.Waits.{none, since, wait_of}
use Rattle.mixer_law.specs.Mixers.{after, events}
use Rattle.mixer_law.specs.Promises.{NobodyWaits, Longest, NamesTheLongest}
use Rattle.mixer_law.specs.Promises.{ServesTheNamed, AskingAgainChangesNothing}
use Rattle.mixer_law.specs.Promises.{NobodyNamed, NobodyOnlyThen}
use Rattle.mixer_law.proofs.Entries.{Entry, strips, Rising, look, waits-has, look-all}
use Rattle.mixer_law.proofs.Runs.{Fit, fits}

module _ (calls : List Call) where
  abbrev f : Fit (fits calls).then (λ strip. wait_of strip (events calls)) (after calls)
  f = (fits calls).fit

  names-entry : turn_names (after calls) ≡ first_waiting (strips f.entries)
  names-entry = ap first_waiting f.line-is

  -- the first entry, where a strip is named
  longest-entry :
      (strip : ℕ) (es : List Entry) → f.entries ≡ es → Rising es
      → first_waiting (strips es) ≡ Some strip → Longest calls strip
  unfolding Rising look
  longest-entry strip [] p r q = let z : ◌≡◌ {A = ℕ} 0 1 = cc in absurd (omega arith)
  longest-entry strip (e ∷ es) p r q =
      let same : e.strip ≡ strip = cc in
      let below : strip < strip_count = (rw (p, same) at f.low).0 in
      record {
        of-sixteen = below;
        began = e.began;
        waits = f.known strip below ∙ ap (look strip) p ∙ rw (eq-eqb e.strip strip same);
        longest = λ other later l ne w.
            let other-entry : look other es ≡ since later =
            rw (ne_eqb e.strip other (λ z. ne (sym z ∙ same)))
            at (sym (f.known other l ∙ ap (look other) p) ∙ w) in
            look-all (λ u. e.began < u) other later es r.0 other-entry;
      }

  -- no entry, where nobody is
  none-entry :
      (es : List Entry) → f.entries ≡ es → first_waiting (strips es) ≡ None → f.entries ≡ []
  none-entry [] p q = p
  none-entry (e ∷ es) p q = let z : ◌≡◌ {A = ℕ} 0 1 = cc in absurd (omega arith)

  -- and where none of the strips waits
  no-entry : NobodyWaits calls → (es : List Entry) → f.entries ≡ es → f.entries ≡ []
  unfolding look
  no-entry w [] p = p
  no-entry w (e ∷ es) p =
      let below : e.strip < strip_count = (rw p at f.low).0 in
      let same : look e.strip (e ∷ es) ≡ none =
      sym (ap (look e.strip) p)
      ∙ sym (f.known e.strip below)
      ∙ w e.strip (omega (arith, below)) in
      let now : since e.began ≡ none = rw (eq-eqb e.strip e.strip refl) at same in
      let z : ◌≡◌ {A = ℕ} 0 1 = cc in
      absurd (omega arith)

pub names-the-longest : NamesTheLongest
names-the-longest calls strip e =
    longest-entry calls strip (f calls).entries refl (f calls).rising
    (sym (names-entry calls) ∙ e)

pub serves-the-named : ServesTheNamed
serves-the-named calls strip e m n curve scenes table =
    let below = lt-leb strip_count strip (names-the-longest calls strip e).of-sixteen in
    record { reply = rw (e, below); mask = λ side reply old. rw e }

pub asking-again-changes-nothing : AskingAgainChangesNothing
asking-again-changes-nothing calls strip began l w =
    let there =
    waits-has strip began (f calls).entries (sym ((f calls).known strip l) ∙ w) in
    rw (lt-leb strip_count strip l, (f calls).line-is, there)

pub nobody-only-then : NobodyOnlyThen
unfolding look
nobody-only-then calls e strip l =
    let empty = none-entry calls (f calls).entries refl (sym (names-entry calls) ∙ e) in
    (f calls).known strip (omega (arith, l)) ∙ ap (look strip) empty

pub nobody-named : NobodyNamed
nobody-named calls w =
    let empty = no-entry calls w (f calls).entries refl in
    let e : turn_names (after calls) ≡ None =
    names-entry calls ∙ ap (λ (es : List Entry). first_waiting (strips es)) empty in
    (e, ap (λ named. turned_by named (after calls)) e)
