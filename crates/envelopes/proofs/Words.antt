-- The words of held notes. Bytes joined one after the other are below 256 to the number of them,
-- each is found again in the word, and so note n is held exactly when word n / 64 has bit
-- 63 - n % 64 set, the lowest bit being 0. Assumes nothing.
use mathlib.Core.Path.{◌≡◌, refl, sym, ap, subst, ◌∙◌}
use mathlib.Core.List.{List}
use Prim.Native.Nat.{ℕ, zero, suc, ◌+◌, ◌-◌, ◌*◌, ◌/◌, ◌%◌, ◌^◌, ◌≤◌, ◌<◌}
use native.Mathlib.Nat.{div-div-eq-div-mul, add-zero, zero-add, div-one, pow-suc}
use native.Mathlib.Numerals.{add-one}
use native.Mathlib.Decide.{dec_lt}
use native.Mathlib.Omega.{arith}
use lib.Dec.{eqb, lit≤}
use lib.Pow.{pow-add, shr-shr, field, mod-mod-pow}
use lib.ListN.{get_or}
use Rattle.lists.specs.Bytes.{number_at}
use Rattle.envelopes.specs.Envelope.{is_held}
use Rattle.envelopes.specs.Words.{word_of, is_set, Bytes, HeldByWords}

-- ---- one more byte
pub number_more : (held : List ℕ) (first n : ℕ) → number_at held first (n + 1) ≡ number_at held first n * 256 + get_or held (first + n) 0
unfolding number_at
number_more held first n = rw (add-one n) refl

pub bytes-more : (held : List ℕ) (first n : ℕ) → Bytes held first n → get_or held (first + n) 0 < 256 → Bytes held first (n + 1)
bytes-more held first n small last k h = go (dec_lt k n)
  where
    go : Dec (k < n) → get_or held (first + k) 0 < 256
    go (yes l) = small k l
    go (no l) = let e : k ≡ n = omega arith in rw e last

pub below_more : (w b k : ℕ) → w < 256 ^ k → b < 256 → w * 256 + b < 256 ^ (k + 1)
below_more w b k h l = let e : 256 ^ (k + 1) ≡ 256 ^ k * 256 = rw (add-one k) (pow-suc 256 k) in omega (arith, e)

-- what the first k of eight bytes make, with one more, fits 64 bits
pub seven-at-most : (k : ℕ) → k < 8 → 256 ^ k ≤ 2 ^ 56
seven-at-most zero h = lit≤ tt
seven-at-most (suc zero) h = lit≤ tt
seven-at-most (suc (suc zero)) h = lit≤ tt
seven-at-most (suc (suc (suc zero))) h = lit≤ tt
seven-at-most (suc (suc (suc (suc zero)))) h = lit≤ tt
seven-at-most (suc (suc (suc (suc (suc zero))))) h = lit≤ tt
seven-at-most (suc (suc (suc (suc (suc (suc zero)))))) h = lit≤ tt
seven-at-most (suc (suc (suc (suc (suc (suc (suc zero))))))) h = lit≤ tt
seven-at-most (suc (suc (suc (suc (suc (suc (suc (suc k)))))))) h = absurd (omega arith)

-- ---- each byte in its word
-- a bit of a number's last eight is a bit of the number
low_bit : (x s : ℕ) → s ≤ 7 → x % 256 / 2 ^ s % 2 ≡ x / 2 ^ s % 2
low_bit x zero h = omega arith
low_bit x (suc zero) h = omega arith
low_bit x (suc (suc zero)) h = omega arith
low_bit x (suc (suc (suc zero))) h = omega arith
low_bit x (suc (suc (suc (suc zero)))) h = omega arith
low_bit x (suc (suc (suc (suc (suc zero))))) h = omega arith
low_bit x (suc (suc (suc (suc (suc (suc zero)))))) h = omega arith
low_bit x (suc (suc (suc (suc (suc (suc (suc zero))))))) h = omega arith
low_bit x (suc (suc (suc (suc (suc (suc (suc (suc s)))))))) h = absurd (omega arith)

-- the last m of some bytes shifted out
shifted : (held : List ℕ) (first n m : ℕ) → Bytes held first (n + m) → number_at held first (n + m) / 2 ^ (8 * m) ≡ number_at held first n
shifted held first n zero small = rw (add-zero n) (div-one (number_at held first n))
shifted held first n (suc m) small =
    let j = number_at held first (n + m) in
    let b = get_or held (first + (n + m)) 0 in
    let l : b < 256 = small (n + m) (omega arith) in
    let e : 8 * suc m ≡ 8 + 8 * m = omega arith in
    let one : (j * 256 + b) / 2 ^ 8 ≡ j = omega arith in
    let next : n + suc m ≡ n + m + 1 = omega arith in
    ap (λ (z : ℕ). z / 2 ^ (8 * suc m)) (ap (number_at held first) next ∙ number_more held first (n + m))
    ∙ ap (λ (z : ℕ). (j * 256 + b) / 2 ^ z) e ∙ sym (shr-shr (j * 256 + b) 8 (8 * m)) ∙ ap (λ (z : ℕ). z / 2 ^ (8 * m)) one
    ∙ shifted held first n m (λ k h. small k (omega arith))

module _ (held : List ℕ) (first : ℕ) (small : Bytes held first 8) where
  abbrev byte : ℕ → ℕ
  byte k = get_or held (first + k) 0

  abbrev word : ℕ
  word = number_at held first 8

  byte_of : (k : ℕ) → k < 8 → word / 2 ^ (8 * (7 - k)) % 256 ≡ byte k
  byte_of k h =
      let all : k + 1 + (7 - k) ≡ 8 = omega arith in
      let l : byte k < 256 = small k h in
      let e : word / 2 ^ (8 * (7 - k)) ≡ number_at held first k * 256 + byte k =
      ap (λ (n : ℕ). number_at held first n / 2 ^ (8 * (7 - k))) (sym all)
      ∙ shifted held first (k + 1) (7 - k) (subst (Bytes held first) (sym all) small) ∙ number_more held first k in
      omega (arith, e)

  -- the bits of byte k
  bit-of-byte : (k s : ℕ) → k < 8 → s ≤ 7 → word / 2 ^ (8 * (7 - k) + s) % 2 ≡ byte k / 2 ^ s % 2
  bit-of-byte k s h l =
      let p = 8 * (7 - k) in
      ap (λ (z : ℕ). z % 2) (ap (λ (z : ℕ). word / z) (pow-add 2 p s) ∙ sym (div-div-eq-div-mul word (2 ^ p) (2 ^ s)))
      ∙ sym (low_bit (word / 2 ^ p) s l)
      ∙ ap (λ (z : ℕ). z / 2 ^ s % 2) (byte_of k h)

-- ---- a note in its word
pub in-word : (held : List ℕ) (n : ℕ) → Bytes held (8 * (n / 64)) 8 → is_held held n ≡ is_set (word_of held (n / 64)) (63 - n % 64)
in-word held n small =
    ap (λ (z : ℕ). eqb z 1)
    (sym
    (ap (λ (z : ℕ). word_of held (n / 64) / 2 ^ z % 2) place ∙ bit-of-byte held (8 * (n / 64)) small (n % 64 / 8) (7 - n % 8) (omega arith) (omega arith)
    ∙ ap (λ (i : ℕ). get_or held i 0 / 2 ^ (7 - n % 8) % 2) byte-place))
  where
    place : 63 - n % 64 ≡ 8 * (7 - n % 64 / 8) + (7 - n % 8)
    place = omega arith

    byte-place : 8 * (n / 64) + n % 64 / 8 ≡ n / 8
    byte-place = omega arith

-- for every sixteen bytes
pub held-by-words : HeldByWords
held-by-words held sixteen small n h =
    in-word held n (λ k l. subst (λ (i : ℕ). get_or held i 0 < 256) (zero-add (8 * (n / 64) + k)) (small (8 * (n / 64) + k) (omega arith)))

-- ---- the halves of a word
pub in-half : (word k : ℕ) → k < 32 → is_set (word / 2 ^ 32) k ≡ is_set word (32 + k)
in-half word k h = ap (λ (z : ℕ). eqb (z % 2) 1) (shr-shr word 32 k)

pub in-low-half : (word k : ℕ) → k < 32 → is_set (word % 2 ^ 32) k ≡ is_set word k
in-low-half word k h =
    let e : 31 - k + 1 + k ≡ 32 = omega arith in
    ap (λ (z : ℕ). eqb (z % 2) 1) (ap (λ (b : ℕ). word % 2 ^ b / 2 ^ k) (sym e) ∙ field word (31 - k + 1) k)
    ∙ ap (λ (z : ℕ). eqb z 1) (mod-mod-pow (word / 2 ^ k) (31 - k) 1)
