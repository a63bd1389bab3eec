-- What the search for an id answers, and what the calls on a bank answer in each case of their
-- tests. Assumes nothing.
use mathlib.Core.Path.{◌≡◌, refl, sym, ap, ◌∙◌}
use mathlib.Core.Bool.{Bool, true, false, cond}
use mathlib.Core.List.{List, []}
use Prim.Native.Nat.{ℕ, ◌≤◌, ◌<◌}
use native.Mathlib.Omega.{arith}
use lib.Dec.{ltb}
use lib.ListN.{length, take}
use borrow.Author.Tests.{le-leb, lt-leb, lt-ltb, le-ltb, ltb-true, ltb-false}
use Rattle.std.specs.Prelude.{Option, Some, None, is_some}
use Rattle.answer.specs.Refusal.{VOICE_COUNT, VOICE, ID}
use Rattle.answer.specs.Reply.{done, refused}
use Rattle.scene.specs.declared.MaskVoice.{MaskVoice}
use Rattle.scene.specs.Accepted.{voice_accepted}
use Rattle.scene.specs.Gathered.{held}
use Rattle.scene.proofs.Gathered.{held_fits}
use Rattle.voice_bank.specs.declared.Bank.{Bank}
use Rattle.voice_bank.specs.Banks.{held_in, place_in, found_in, holds}
use Rattle.voice_bank.specs.Banks.{add_reply, remove_reply, change_reply}

-- at most 128 places count
pub places-most : (n : ℕ) {count : ℕ} → count ≡ held n → count ≤ 128
places-most n e = rw e (held_fits n).1

-- ---- where an id stands in a list of them
module _ (id : ℕ) (ids : List ℕ) where
  -- by the place that a search along the list comes to
  pub found-there :
      {place : ℕ} → place_in id ids ≡ place → place < length ids → Some place ≡ found_in id ids
  found-there {place} e h = rw (e, lt-ltb place (length ids) h)

  pub found-nowhere :
      {place : ℕ} → place_in id ids ≡ place → length ids ≤ place → None ≡ found_in id ids
  found-nowhere {place} e h = rw (e, le-ltb place (length ids) h)

  -- and what it then says of that place
  told : is_some (found_in id ids) ≡ ltb (place_in id ids) (length ids)
  told = go (ltb (place_in id ids) (length ids))
    where
      go : (b : Bool) → is_some (cond b (Some (place_in id ids)) None) ≡ b
      go true = refl
      go false = refl

  module _ {found : Option ℕ} (e : found ≡ found_in id ids) where
    pub some-inside : is_some found ≡ true → place_in id ids < length ids
    some-inside h = ltb-true _ _ (sym (ap is_some e ∙ told) ∙ h)

    pub none-beyond : is_some found ≡ false → length ids ≤ place_in id ids
    none-beyond h = ltb-false _ _ (sym (ap is_some e ∙ told) ∙ h)

  pub found-place : {place : ℕ} → Some place ≡ found_in id ids → place ≡ place_in id ids
  found-place {place} e = go (ltb (place_in id ids) (length ids)) e
    where
      go : (b : Bool) → Some place ≡ cond b (Some (place_in id ids)) None → place ≡ place_in id ids
      go true f = cc
      go false f = let z : ◌≡◌ {A = ℕ} 0 1 = cc in absurd (omega arith)

-- ---- whether an id is there, by the place that a search finds
module _ (bank : Bank) (id : ℕ) {count place : ℕ} (n : count ≡ held_in bank)
    (p : place ≡ place_in id (take count bank.ids)) where
  is-holds : place < count → holds bank id ≡ true
  is-holds h = rw (sym n, sym p) (lt-ltb place count h)

  is-missing : count ≤ place → holds bank id ≡ false
  is-missing h = rw (sym n, sym p) (le-ltb place count h)

-- ---- adding: the places that count are all those below the count
module _ (bank : Bank) (id : ℕ) (voice : MaskVoice) where
  pub add-full : 128 ≤ bank.count → add_reply bank id voice ≡ refused VOICE_COUNT 0
  unfolding add_reply
  add-full h = rw (le-leb 128 bank.count h)

  module _ (room : bank.count < 128) where
    pub add-outside : voice_accepted voice ≡ false → add_reply bank id voice ≡ refused VOICE 0
    unfolding add_reply
    add-outside a = rw (lt-leb 128 bank.count room, a)

    module _ (a : voice_accepted voice ≡ true) {place : ℕ}
        (p : place ≡ place_in id (take bank.count bank.ids)) where
      all-count : bank.count ≡ held_in bank
      all-count = sym (simp (le-ltb 128 bank.count (omega arith)))

      pub add-again : place < bank.count → add_reply bank id voice ≡ refused ID 0
      unfolding add_reply
      add-again h =
          rw (lt-leb 128 bank.count room, a, is-holds bank id all-count p h)

      pub add_done : bank.count ≤ place → add_reply bank id voice ≡ done []
      unfolding add_reply
      add_done h =
          rw (lt-leb 128 bank.count room, a, is-missing bank id all-count p h)

-- ---- taking out and changing
module _ (bank : Bank) (id : ℕ) {count place : ℕ} (n : count ≡ held_in bank)
    (p : place ≡ place_in id (take count bank.ids)) where
  pub remove-missing : count ≤ place → remove_reply bank id ≡ refused ID 0
  unfolding remove_reply
  remove-missing h = rw (is-missing bank id n p h)

  pub remove-done : place < count → remove_reply bank id ≡ done []
  unfolding remove_reply
  remove-done h = rw (is-holds bank id n p h)

  module _ (voice : MaskVoice) (a : voice_accepted voice ≡ true) where
    pub change-missing : count ≤ place → change_reply bank id voice ≡ refused ID 0
    unfolding change_reply
    change-missing h = rw (a, is-missing bank id n p h)

    pub change-done : place < count → change_reply bank id voice ≡ done []
    unfolding change_reply
    change-done h = rw (a, is-holds bank id n p h)

pub change-outside :
    (bank : Bank) (id : ℕ) (voice : MaskVoice) → voice_accepted voice ≡ false
    → change_reply bank id voice ≡ refused VOICE 0
unfolding change_reply
change-outside bank id voice a = rw a
