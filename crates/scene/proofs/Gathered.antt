-- The array fills from its start, and of a list of at most 128 voices it begins with the list.
-- Assumes nothing.
use mathlib.Core.Path.{◌≡◌, refl, sym, ap, ◌∙◌}
use mathlib.Core.List.{List, [], ◌∷◌, ◌++◌}
use Prim.Native.Nat.{ℕ, zero, suc, ◌+◌, ◌-◌, ◌<◌, ◌≤◌}
use native.Mathlib.Omega.{arith}
use native.Mathlib.Nat.{not-suc-le-zero, le_of_suc-le-suc}
use native.Mathlib.Numerals.{add-one}
use mathlib.Core.Bool.{Bool, true, false, cond, not}
use borrow.Author.Tests.{le-ltb}
use lib.Dec.{T, ltb, ltb→lt, nltb→le}
use lib.ListN.{length, take, get_or, set, replicate, length-append, length-replicate}
use lib.Seq.{length-take-le}
use Rattle.scene.specs.declared.MaskVoice.{MaskVoice}
use Rattle.scene.specs.Accepted.{no_voice}
use Rattle.scene.specs.Made.{silent_voice}
use Rattle.scene.specs.Gathered.{held, gathered_to, gathered}

module _ {A : Type 0} (s d : A) where
  one_more :
      (xs : List A) (i k : ℕ) → i < length xs
      → set (take i xs ++ replicate (suc k) s) i (get_or xs i d) ≡ take (suc i) xs ++ replicate k s
  one_more [] i k l = absurd (not-suc-le-zero l)
  one_more (x ∷ xs) zero k l = refl
  one_more (x ∷ xs) (suc i) k l =
      ap (λ (ys : List A). x ∷ ys) (one_more xs i k (le_of_suc-le-suc l))

take-front : {A : Type 0} (xs ys : List A) → take (length xs) (take (length xs) xs ++ ys) ≡ xs
take-front [] ys = refl
take-front (x ∷ xs) ys = ap (λ (zs : List _). x ∷ zs) (take-front xs ys)

held_at :
    (n : ℕ) (over : Bool) → (T over → 128 < n) → (T (not over) → n ≤ 128)
    → (cond over 128 n ≤ n) × (cond over 128 n ≤ 128)
held_at n true a b = let l : 128 < n = a tt in (omega arith, omega arith)
held_at n false a b = let l : n ≤ 128 = b tt in (omega arith, l)

pub held_fits : (n : ℕ) → (held n ≤ n) × (held n ≤ 128)
held_fits n = held_at n (ltb 128 n) (ltb→lt 128 n) (nltb→le 128 n)

pub length-gathered :
    (voices : List MaskVoice) (n : ℕ) → n ≤ length voices → n ≤ 128
    → length (gathered_to n voices) ≡ 128
unfolding gathered_to
length-gathered voices n l m =
    let whole : n + (128 - n) ≡ 128 = omega arith in
    length-append (take n voices) (replicate (128 - n) silent_voice)
    ∙ ap (λ (k : ℕ). k + length (replicate (128 - n) silent_voice)) (length-take-le n voices l)
    ∙ ap (λ (k : ℕ). n + k) (length-replicate (128 - n) silent_voice)
    ∙ whole

pub gathered_none : (voices : List MaskVoice) → gathered_to 0 voices ≡ replicate 128 silent_voice
unfolding gathered_to
gathered_none voices = refl

pub gathered-more :
    (voices : List MaskVoice) (i : ℕ) → i < length voices → i < 128
    → set (gathered_to i voices) i (get_or voices i no_voice) ≡ gathered_to (i + 1) voices
unfolding gathered_to
gathered-more voices i l m =
    let left : 128 - i ≡ suc (128 - (i + 1)) = omega arith in
    ap (λ (k : ℕ). set (take i voices ++ replicate k silent_voice) i (get_or voices i no_voice)) left
    ∙ one_more silent_voice no_voice voices i (128 - (i + 1)) l
    ∙ ap (λ (j : ℕ). take j voices ++ replicate (128 - (i + 1)) silent_voice) (sym (add-one i))

pub take-gathered :
    (voices : List MaskVoice) → length voices ≤ 128
    → take (length voices) (gathered voices) ≡ voices
unfolding gathered_to
take-gathered voices l =
    rw (
      le-ltb 128 (length voices) l,
      take-front voices (replicate (128 - length voices) silent_voice),
    )
