-- Bytes as one number, the most significant first, and a number as bytes, over any width: each
-- comes back from the other. Assumes nothing.
use Rattle.std.specs.Prelude.{◌≡◌, refl, List, [], ◌∷◌, ◌++◌, ℕ, zero, suc, ◌+◌, ◌*◌, ◌/◌, ◌%◌, ◌^◌, ◌≤◌, ◌<◌, length, get_or, take, drop}
use Rattle.std.proofs.Common.{sym, ap, ◌∙◌, append_assoc, add_assoc, zero-add, pow-suc, div-add-mod', add-one, arith, length-append, take-suc, get_or-drop}
use Rattle.std.proofs.Math.Arith.{digits_div, digits_mod}
use Rattle.std.proofs.lemmas.List.{get_or_at}
use Rattle.lists.specs.Totals.{All, all-at}

abbrev pub Byte : ℕ → Type 0
Byte b = b < 256

-- the n bytes from `first` on as one number
unfoldable pub number_at : List ℕ → ℕ → ℕ → ℕ
number_at bytes first zero = 0
number_at bytes first (suc n) = number_at bytes first n * 256 + get_or bytes (first + n) 0

-- the n lowest bytes of a number
unfoldable pub bytes_of : ℕ → ℕ → List ℕ
bytes_of zero number = []
bytes_of (suc n) number = bytes_of n (number / 256) ++ (number % 256 ∷ [])

pub length-bytes : (n number : ℕ) → length (bytes_of n number) ≡ n
unfolding bytes_of
length-bytes zero number = refl
length-bytes (suc n) number =
    length-append (bytes_of n (number / 256)) (number % 256 ∷ [])
    ∙ ap (λ (k : ℕ). k + 1) (length-bytes n (number / 256)) ∙ add-one n

-- the bytes further on
pub number-drop :
    (bytes : List ℕ) (past first n : ℕ)
    → number_at (drop past bytes) first n ≡ number_at bytes (past + first) n
unfolding number_at
number-drop bytes past first zero = refl
number-drop bytes past first (suc n) =
    rw (number-drop bytes past first n, get_or-drop past bytes (first + n) 0, add_assoc past first n)

-- ---- a number comes back from its bytes
pub number-back :
    (n number : ℕ) (rest : List ℕ) → number < 256 ^ n
    → number_at (bytes_of n number ++ rest) 0 n ≡ number
unfolding number_at bytes_of
number-back zero number rest h = omega arith
number-back (suc n) number rest h =
    let front = bytes_of n (number / 256) in
    let p : 256 ^ suc n ≡ 256 ^ n * 256 = pow-suc 256 n in
    let whole = div-add-mod' number 256 in
    let low : number / 256 < 256 ^ n = omega arith in
    ap (λ (bytes : List ℕ). number_at bytes 0 n * 256 + get_or bytes (0 + n) 0)
    (append_assoc front (number % 256 ∷ []) rest)
    ∙ rw (
      zero-add n,
      number-back n (number / 256) (number % 256 ∷ rest) low,
      get_or_at front (number % 256) rest 0 n (length-bytes n (number / 256)),
    )
    whole

-- ---- bytes come back from their number
pub number-below :
    (n : ℕ) (bytes : List ℕ) → n ≤ length bytes → All Byte bytes → number_at bytes 0 n < 256 ^ n
unfolding number_at
number-below zero bytes l h = omega arith
number-below (suc n) bytes l h =
    let p : 256 ^ suc n ≡ 256 ^ n * 256 = pow-suc 256 n in
    let b : get_or bytes (0 + n) 0 < 256 = rw (zero-add n) (all-at Byte bytes n 0 h l) in
    let r = number-below n bytes (omega arith) h in
    omega arith

pub bytes_back :
    (n : ℕ) (bytes : List ℕ) → n ≤ length bytes → All Byte bytes
    → bytes_of n (number_at bytes 0 n) ≡ take n bytes
unfolding number_at bytes_of
bytes_back zero bytes l h = refl
bytes_back (suc n) bytes l h =
    let j = number_at bytes 0 n in
    let b = get_or bytes n 0 in
    let small : b < 256 = all-at Byte bytes n 0 h l in
    rw (zero-add n, digits_div j small, digits_mod j small, bytes_back n bytes (omega arith) h)
    (sym (take-suc bytes n 0 l))
