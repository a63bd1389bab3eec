-- The entries that are present as two lists, of ids and of voices, which is how a bank holds them:
-- whether an id is there, taking an entry out and changing one. Assumes nothing.
use mathlib.Core.Path.{◌≡◌, refl, sym, ap, ◌∙◌}
use mathlib.Core.Bool.{Bool, true, false, cond, not, ◌||◌}
use mathlib.Core.List.{List, [], ◌∷◌, map}
use Prim.Native.Nat.compare
use Prim.Native.Nat.{ℕ, zero, suc}
use native.Mathlib.Omega.{arith}
use lib.Dec.{eqb, ltb}
use lib.ListN.{length, set}
use borrow.Author.Tests.{lt-ltb}
use Rattle.lists.specs.Folds.{first_bad_from, bad-later}
use Rattle.lists.specs.Closing.{without}
use Rattle.scene.specs.declared.MaskVoice.{MaskVoice}
use Rattle.voice_bank.specs.Banks.{place_in}
use Rattle.bank_law.specs.Present.{Entry, entry, voices, has, taken_out, changed}

abbrev pub ids : List Entry → List ℕ
ids entries = map (λ e. e.id) entries

-- ---- the place of an id in a list of them
place-next :
    (id x : ℕ) (xs : List ℕ)
    → place_in id (x ∷ xs) ≡ cond (eqb x id) 0 (suc (place_in id xs))
unfolding first_bad_from
place-next id x xs = go (eqb x id)
  where
    go : (b : Bool)
        → cond (not b) (first_bad_from (λ k y. not (eqb y id)) 1 xs) 0
        ≡ cond b 0 (suc (place_in id xs))
    go true = refl
    go false = bad-later (λ y. not (eqb y id)) 0 xs

-- ---- whether an id is there
pub has-place :
    (id : ℕ) (es : List Entry) → has id es ≡ ltb (place_in id (ids es)) (length es)
unfolding has first_bad_from
has-place id [] = refl
has-place id (e ∷ es) = rw (place-next id e.id (ids es)) (go (eqb e.id id) (has-place id es))
  where
    p : ℕ
    p = place_in id (ids es)

    go : (b : Bool) → has id es ≡ ltb p (length es)
        → (b || has id es) ≡ ltb (cond b 0 (suc p)) (suc (length es))
    go true r = sym (lt-ltb 0 (suc (length es)) (omega arith))
    go false r = r ∙ sym (simp compare.suc-suc)

-- ---- both lists lose the entry at the id's place
pub record TakenOut (id : ℕ) (es : List Entry) : Type 0 where
  pub of-ids : ids (taken_out id es) ≡ without (place_in id (ids es)) (ids es)
  pub of-voices : voices (taken_out id es) ≡ without (place_in id (ids es)) (voices es)

pub taken_out_lem : (id : ℕ) (es : List Entry) → TakenOut id es
unfolding taken_out without first_bad_from
taken_out_lem id [] = record { of-ids = refl; of-voices = refl }
taken_out_lem id (e ∷ es) =
    let t = taken_out_lem id es in
    let r = go (eqb e.id id) t.of-ids t.of-voices in
    let next = place-next id e.id (ids es) in
    record { of-ids = rw next r.0; of-voices = rw next r.1 }
  where
    p : ℕ
    p = place_in id (ids es)

    go : (b : Bool) → ids (taken_out id es) ≡ without p (ids es)
        → voices (taken_out id es) ≡ without p (voices es)
        → (ids (cond b es (e ∷ taken_out id es)) ≡ without (cond b 0 (suc p)) (e.id ∷ ids es))
        × (voices (cond b es (e ∷ taken_out id es))
        ≡ without (cond b 0 (suc p)) (e.voice ∷ voices es))
    go true r s = (refl, refl)
    go false r s = (ap (λ l. e.id ∷ l) r, ap (λ l. e.voice ∷ l) s)

-- ---- the ids stay, and the voice at the id's place is another
pub record Changed (id : ℕ) (voice : MaskVoice) (es : List Entry) : Type 0 where
  pub of-ids : ids (changed id voice es) ≡ ids es
  pub of-voices : voices (changed id voice es) ≡ set (voices es) (place_in id (ids es)) voice

pub changed-at : (id : ℕ) (voice : MaskVoice) (es : List Entry) → Changed id voice es
unfolding changed first_bad_from
changed-at id voice [] = record { of-ids = refl; of-voices = refl }
changed-at id voice (e ∷ es) =
    let t = changed-at id voice es in
    let r = go (eqb e.id id) t.of-ids t.of-voices in
    record { of-ids = r.0; of-voices = rw (place-next id e.id (ids es)) r.1 }
  where
    p : ℕ
    p = place_in id (ids es)

    go : (b : Bool) → ids (changed id voice es) ≡ ids es
        → voices (changed id voice es) ≡ set (voices es) p voice
        → (ids (cond b (entry e.id voice ∷ es) (e ∷ changed id voice es)) ≡ e.id ∷ ids es)
        × (voices (cond b (entry e.id voice ∷ es) (e ∷ changed id voice es))
        ≡ set (e.voice ∷ voices es) (cond b 0 (suc p)) voice)
    go true r s = (refl, refl)
    go false r s = (ap (λ l. e.id ∷ l) r, ap (λ l. e.voice ∷ l) s)
