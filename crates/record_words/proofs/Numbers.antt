-- A number's bytes as std makes and reads them are those of `lists`. Assumes nothing.
use mathlib.Core.Path.{◌≡◌, sym, ap, ◌∙◌}
use mathlib.Core.List.{List, [], ◌∷◌}
use Prim.Native.Nat.{ℕ, ◌+◌, ◌*◌, ◌/◌, ◌^◌, ◌-◌, ◌≤◌}
use native.Mathlib.Nat.{add-zero}
use native.Mathlib.Omega.{arith}
use Rattle.std.proofs.Common.{append_assoc}
use lib.ListN.{length, get_or, take, drop}
use lib.Pow.{shr-shr}
use lib.Seq.{drop-drop, sets-eq}
use borrow.Rule.Slice.PartMut.{put_mid}
use Rattle.std.specs.Int.{w32, from_be_bytes, to_be_bytes}
use Rattle.lists.specs.Bytes.{number_at, bytes_of}
use Rattle.lists.specs.Stores.{stored}

-- ---- read
word_of :
    (a b c d : ℕ)
    → from_be_bytes w32 (a ∷ b ∷ c ∷ d ∷ []) ≡ ((a * 256 + b) * 256 + c) * 256 + d
word_of a b c d = omega arith

module _ (bytes : List ℕ) (at : ℕ) where
  abbrev byte : ℕ → ℕ
  byte k = get_or bytes k 0

  pub number-three :
      from_be_bytes w32 (0 ∷ byte at ∷ byte (at + 1) ∷ byte (at + 2) ∷ []) ≡ number_at bytes at 3
  unfolding number_at
  number-three = word_of 0 _ _ _ ∙ rw (add-zero at) (omega arith)

  pub number-four :
      from_be_bytes w32 (byte at ∷ byte (at + 1) ∷ byte (at + 2) ∷ byte (at + 3) ∷ [])
      ≡ number_at bytes at 4
  unfolding number_at
  number-four = word_of _ _ _ _ ∙ rw (add-zero at) (omega arith)

-- ---- written, the lowest byte last
module _ (n : ℕ) where
  twice : n / 256 / 256 ≡ n / 2 ^ 16
  twice = shr-shr n 8 8

  thrice : n / 256 / 256 / 256 ≡ n / 2 ^ 24
  thrice = ap (λ (m : ℕ). m / 256) twice ∙ shr-shr n 16 8

  pub three-bytes : drop 1 (to_be_bytes w32 n) ≡ bytes_of 3 n
  unfolding bytes_of
  three-bytes = rw twice

  pub four_bytes : to_be_bytes w32 n ≡ bytes_of 4 n
  unfolding bytes_of
  four_bytes = rw (thrice, twice)

-- a part of a list written over is a run stored from its place on
pub stored_part :
    (l new : List ℕ) (at n : ℕ) → at + n ≤ length l → length new ≡ n
    → put_mid at (at + n - at) l new ≡ stored l at new
unfolding stored
stored_part l new at n fits long =
    let width : at + n - at ≡ length new = omega arith in
    rw (width, drop-drop (length new) at l) (sym (sets-eq new l at (omega arith) ∙ append_assoc (take at l) new (drop (at + length new) l)))
