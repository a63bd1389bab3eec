-- A range of levels that made their step by half words has made it by the word, and the bank that
-- made it by both words has made it by what is held. Assumes nothing.
use mathlib.Core.Path.{◌≡◌, sym, ap, ◌∙◌, subst}
use mathlib.Core.List.{List}
use Prim.Native.Nat.{ℕ, ◌+◌, ◌-◌, ◌*◌, ◌/◌, ◌%◌, ◌^◌, ◌≤◌, ◌<◌}
use native.Mathlib.Decide.{dec_lt}
use native.Mathlib.Omega.{arith}
use lib.Dec.{T}
use lib.ListN.{length, get_or}
use lib.Ieee.{Float, nan}
use Rattle.lists.specs.Maps.{map_at, map_range, between, between-low, between_in, between-high, get_or-map_range, map_from-same}
use Rattle.lists.specs.Turned.{turned_none, turned_on, turned-all}
use Rattle.limits.specs.Limits as limits
use Rattle.envelopes.specs.Envelope.{is_held, next_level, Accepted}
use Rattle.envelopes.specs.Words.{Bytes, word_of, is_set}
use Rattle.envelopes.proofs.Words.{in-word, in-half, in-low-half}

-- two maps that agree on a range
range_same : (g h : ℕ → Float → Float) (lo hi : ℕ) (xs : List Float) → ((k : ℕ) (x : Float) → lo ≤ k → k < hi → g k x ≡ h k x) → map_range g lo hi xs ≡ map_range h lo hi xs
range_same g h lo hi xs same = map_from-same (between lo hi g) (between lo hi h) 0 xs (λ k x p q. go k x (dec_lt k lo) (dec_lt k hi))
  where
    go : (k : ℕ) (x : Float) → Dec (k < lo) → Dec (k < hi) → between lo hi g k x ≡ between lo hi h k x
    go k x (yes a) d = between-low g lo hi k x a ∙ sym (between-low h lo hi k x a)
    go k x (no a) (yes b) = between_in g lo hi k x (omega arith) b ∙ same k x (omega arith) b ∙ sym (between_in h lo hi k x (omega arith) b)
    go k x (no a) (no b) = between-high g lo hi k x (omega arith) ∙ sym (between-high h lo hi k x (omega arith))

-- levels past a range are still accepted
pub still-accepted : (g : ℕ → Float → Float) (levels : List Float) (lo hi last : ℕ) → last ≤ length levels → Accepted levels hi last → Accepted (map_range g lo hi levels) hi last
still-accepted g levels lo hi last l ok note a b =
    subst (λ (x : Float). T (limits.level x)) (sym (get_or-map_range g lo hi levels note nan (omega arith) ∙ between-high g lo hi note (get_or levels note nan) a)) (ok note a b)

-- ---- a word, by its halves
module _ (alpha : Float) (word index : ℕ) where
  abbrev pub by-half : ℕ → ℕ → Float → Float
  by-half half note level = next_level (is_set half (31 - note % 32)) alpha level

  abbrev pub by_word : ℕ → Float → Float
  by_word note level = next_level (is_set word (63 - note % 64)) alpha level

  first-half : (note : ℕ) (level : Float) → 64 * index ≤ note → note < 64 * index + 32 → by-half (word / 2 ^ 32) note level ≡ by_word note level
  first-half note level a b =
      let e : 32 + (31 - note % 32) ≡ 63 - note % 64 = omega arith in
      ap (λ held. next_level held alpha level) (in-half word (31 - note % 32) (omega arith) ∙ ap (is_set word) e)

  second-half : (note : ℕ) (level : Float) → 64 * index + 32 ≤ note → note < 64 * index + 64 → by-half (word % 2 ^ 32) note level ≡ by_word note level
  second-half note level a b =
      let e : 31 - note % 32 ≡ 63 - note % 64 = omega arith in
      ap (λ held. next_level held alpha level) (in-low-half word (31 - note % 32) (omega arith) ∙ ap (is_set word) e)

  pub by-halves : (levels₀ levels₁ : List Float) {levels₂ : List Float}
      → levels₁ ≡ map_range (by-half (word / 2 ^ 32)) (64 * index) (64 * index + 32) levels₀
      → levels₂ ≡ map_range (by-half (word % 2 ^ 32)) (64 * index + 32) (64 * index + 64) levels₁
      → levels₂ ≡ map_range by_word (64 * index) (64 * index + 64) levels₀
  by-halves levels₀ levels₁ e f =
      let a = 64 * index in
      let one = e ∙ range_same (by-half (word / 2 ^ 32)) by_word a (a + 32) levels₀ first-half in
      let two = f ∙ range_same (by-half (word % 2 ^ 32)) by_word (a + 32) (a + 64) levels₁ second-half in
      (turned_on nan (a + 64) (turned_on nan (a + 32) (turned_none by_word a levels₀) (omega arith) one) (omega arith) two).is

-- ---- the bank, by its words
module _ (alpha : Float) (held : List ℕ) where
  abbrev pub by-held : ℕ → Float → Float
  by-held note level = next_level (is_held held note) alpha level

  of_word : (index note : ℕ) (level : Float) → Bytes held (8 * index) 8 → 64 * index ≤ note → note < 64 * index + 64 → by_word alpha (word_of held index) index note level ≡ by-held note level
  of_word index note level small a b =
      let e : index ≡ note / 64 = omega arith in
      ap (λ h. next_level h alpha level)
      (ap (λ (i : ℕ). is_set (word_of held i) (63 - note % 64)) e ∙ sym (in-word held note (subst (λ (i : ℕ). Bytes held (8 * i) 8) e small)))

  pub by-words : (levels₀ levels₁ : List Float) {levels₂ : List Float} → length levels₀ ≡ 128 → Bytes held 0 8 → Bytes held 8 8
      → levels₁ ≡ map_range (by_word alpha (word_of held 0) 0) 0 64 levels₀
      → levels₂ ≡ map_range (by_word alpha (word_of held 1) 1) 64 128 levels₁
      → levels₂ ≡ map_at by-held levels₀
  by-words levels₀ levels₁ l small also e f =
      let one = e ∙ range_same (by_word alpha (word_of held 0) 0) by-held 0 64 levels₀ (λ k x a b. of_word 0 k x small a b) in
      let two = f ∙ range_same (by_word alpha (word_of held 1) 1) by-held 64 128 levels₁ (λ k x a b. of_word 1 k x also a b) in
      turned-all (turned_on nan 128 (turned_on nan 64 (turned_none by-held 0 levels₀) (omega arith) one) (omega arith) two) (omega arith)
