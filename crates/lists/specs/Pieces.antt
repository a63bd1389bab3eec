-- Pieces of one width that follow one another: `pieces write xs` is what each entry is written as,
-- one behind the other, and `pieces_of read width bytes n` the n entries that are read from the
-- start. Each law is of every width and of every way to write and read. Assumes nothing.
use Rattle.std.specs.Prelude.{◌≡◌, length, get_or, take}
use Rattle.std.proofs.Math.Path.{refl, sym, ap}
use Rattle.std.proofs.Common.{◌∙◌, mul-zero, add-one, take-suc, length-take-le, drop-drop}
use mathlib.Core.List.{List, [], ◌∷◌, ◌++◌, append_assoc, append-nil}
use Prim.Native.Nat.{ℕ, zero, suc, ◌+◌, ◌*◌, ◌≤◌, ◌<◌}
use Rattle.std.proofs.Math.Nat.{mul-suc}
use native.Mathlib.Omega.{arith}
use Rattle.std.proofs.Math.ListN.{drop, length-append}
use Rattle.std.proofs.Math.Seq.{drop_at}
use Rattle.lists.specs.Totals.{All}
use Rattle.lists.specs.Stores.{stored, stored-append}

module _ {A : Type 0} where
  unfoldable pub pieces : (A → List ℕ) → List A → List ℕ
  pieces write [] = []
  pieces write (x ∷ xs) = write x ++ pieces write xs

  unfoldable pub pieces_of : (List ℕ → A) → ℕ → List ℕ → ℕ → List A
  pieces_of read width bytes zero = []
  pieces_of read width bytes (suc n) = read bytes ∷ pieces_of read width (drop width bytes) n

  -- ---- written
  module _ (write : A → List ℕ) where
    pieces-append : (xs ys : List A) → pieces write (xs ++ ys) ≡ pieces write xs ++ pieces write ys
    unfolding pieces
    pieces-append [] ys = refl
    pieces-append (x ∷ xs) ys =
        ap (λ (l : List ℕ). write x ++ l) (pieces-append xs ys)
        ∙ sym (append_assoc (write x) (pieces write xs) (pieces write ys))

    pieces-one : (x : A) → pieces write (x ∷ []) ≡ write x
    unfolding pieces
    pieces-one x = append-nil (write x)

    module _ (width : ℕ) (wide : (x : A) → length (write x) ≡ width) where
      pub pieces-length : (xs : List A) → length (pieces write xs) ≡ width * length xs
      unfolding pieces
      pieces-length [] = sym (mul-zero width)
      pieces-length (x ∷ xs) =
          omega (
            arith,
            length-append (write x) (pieces write xs),
            wide x,
            pieces-length xs,
            mul-suc width (length xs),
          )

      -- one piece more is stored behind those before it
      pub pieces_more :
          (d : A) (old now : List ℕ) (at i : ℕ) (xs : List A) → i < length xs
          → now ≡ stored old at (pieces write (take i xs))
          → stored now (at + width * i) (write (get_or xs i d))
          ≡ stored old at (pieces write (take (i + 1) xs))
      pieces_more d old now at i xs h e =
          let before = take i xs in
          let x = get_or xs i d in
          let long : length (pieces write before) ≡ width * i =
          pieces-length before ∙ ap (λ (k : ℕ). width * k) (length-take-le i xs (omega arith)) in
          ap (λ (l : List ℕ). stored l (at + width * i) (write x)) e
          ∙ stored-append old at (at + width * i) (pieces write before) (write x)
          (ap (λ (k : ℕ). at + k) long)
          ∙ ap (stored old at)
          (ap (λ (l : List ℕ). pieces write before ++ l) (sym (pieces-one x))
          ∙ sym (pieces-append before (x ∷ []))
          ∙ ap (pieces write)
          (sym (ap (λ (k : ℕ). take k xs) (add-one i) ∙ take-suc xs i d h)))

      -- what is written is read back
      pub pieces-back :
          (read : List ℕ → A) (P : A → Type 0)
          → ((x : A) (rest : List ℕ) → P x → read (write x ++ rest) ≡ x)
          → (xs : List A) (rest : List ℕ) → All P xs
          → pieces_of read width (pieces write xs ++ rest) (length xs) ≡ xs
      unfolding pieces pieces_of
      pieces-back read P back [] rest h = refl
      pieces-back read P back (x ∷ xs) rest h =
          let more = pieces write xs ++ rest in
          rw (
            append_assoc (write x) (pieces write xs) rest,
            back x more h.0,
            drop_at (write x) more width (wide x),
          )
          (ap (λ (l : List A). x ∷ l) (pieces-back read P back xs rest h.1))

  -- ---- read
  module _ (read : List ℕ → A) (width : ℕ) where
    pub pieces-counted : (bytes : List ℕ) (n : ℕ) → length (pieces_of read width bytes n) ≡ n
    unfolding pieces_of
    pieces-counted bytes zero = refl
    pieces-counted bytes (suc n) = ap suc (pieces-counted (drop width bytes) n)

    pub piece-at-place :
        (d : A) (bytes : List ℕ) (n i : ℕ) → i < n
        → get_or (pieces_of read width bytes n) i d ≡ read (drop (width * i) bytes)
    unfolding pieces_of
    piece-at-place d bytes zero i h = absurd (omega arith)
    piece-at-place d bytes (suc n) zero h =
        ap (λ (k : ℕ). read (drop k bytes)) (sym (mul-zero width))
    piece-at-place d bytes (suc n) (suc i) h =
        let next : width + width * i ≡ width * suc i = omega (arith, mul-suc width i) in
        piece-at-place d (drop width bytes) n i (omega arith)
        ∙ ap read (drop-drop (width * i) width bytes ∙ ap (λ (k : ℕ). drop k bytes) next)

    -- the first of more pieces
    pub pieces-first :
        (bytes : List ℕ) (m n : ℕ) → m ≤ n
        → take m (pieces_of read width bytes n) ≡ pieces_of read width bytes m
    unfolding pieces_of
    pieces-first bytes zero n h = refl
    pieces-first bytes (suc m) zero h = absurd (omega arith)
    pieces-first bytes (suc m) (suc n) h =
        ap (λ (l : List A). read bytes ∷ l) (pieces-first (drop width bytes) m n (omega arith))
