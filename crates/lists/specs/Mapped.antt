-- A function at each entry of a list that is cut, joined or changed at a place. Assumes nothing.
use Rattle.std.specs.Prelude.{◌≡◌, refl, List, [], ◌∷◌, ◌++◌, map, ℕ, zero, suc, take, drop, set}
use Rattle.std.proofs.Common.{ap}

module _ {A B : Type 0} (g : A → B) where
  pub map-append : (xs ys : List A) → map g (xs ++ ys) ≡ map g xs ++ map g ys
  map-append [] ys = refl
  map-append (x ∷ xs) ys = ap (λ l. g x ∷ l) (map-append xs ys)

  pub map-take : (n : ℕ) (xs : List A) → map g (take n xs) ≡ take n (map g xs)
  map-take zero xs = refl
  map-take (suc n) [] = refl
  map-take (suc n) (x ∷ xs) = ap (λ l. g x ∷ l) (map-take n xs)

  pub map-drop : (n : ℕ) (xs : List A) → map g (drop n xs) ≡ drop n (map g xs)
  map-drop zero xs = refl
  map-drop (suc n) [] = refl
  map-drop (suc n) (x ∷ xs) = map-drop n xs

  pub map-set : (xs : List A) (p : ℕ) (x : A) → map g (set xs p x) ≡ set (map g xs) p (g x)
  map-set [] p x = refl
  map-set (y ∷ ys) zero x = refl
  map-set (y ∷ ys) (suc p) x = ap (λ l. g y ∷ l) (map-set ys p x)
