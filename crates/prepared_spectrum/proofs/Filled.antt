-- A list that is filled part by part from its front: after the front a come the entries that no
-- part has reached yet. The next part, `&mut s[n..e]` with n the length of a, puts b after a; the
-- last, `&mut s[n..]`, replaces all that is left. Assumes nothing.
use mathlib.Core.Path.{◌≡◌, sym, ap, ◌∙◌}
use mathlib.Core.List.{List, [], ◌++◌, append_assoc, append-nil}
use Prim.Native.Nat.{ℕ, ◌-◌}
use native.Mathlib.Omega.{arith}
use lib.ListN.{length, take, drop, length-append, drop_of_length-le}
use lib.Seq.{take_at, drop_at}

module _ {A : Type 0} (n : ℕ) (a xs b : List A) (h : length a ≡ n) where
  pub fill-next : (k : ℕ) → take n (a ++ xs) ++ (b ++ drop k (drop n (a ++ xs))) ≡ (a ++ b) ++ drop k xs
  fill-next k = rw (take_at a xs n h, drop_at a xs n h) (sym (append_assoc a b (drop k xs)))

  pub fill-last : take n (a ++ xs) ++ (b ++ drop (length (a ++ xs) - n) (drop n (a ++ xs))) ≡ a ++ b
  fill-last =
      let rest : drop (length (a ++ xs) - n) xs ≡ [] = drop_of_length-le xs {i = length (a ++ xs) - n} (omega (arith, length-append a xs)) in
      fill-next (length (a ++ xs) - n) ∙ ap (λ (l : List A). (a ++ b) ++ l) rest ∙ append-nil (a ++ b)

-- three parts in a row, the last up to the end
module _ {A : Type 0} (m t : ℕ) (a b d xs : List A) (h : length a ≡ m) (k : length (a ++ b) ≡ t) where
  abbrev once : List A
  once = a ++ xs

  abbrev twice : List A
  twice = take m once ++ (b ++ drop (t - m) (drop m once))

  pub fill-three : take t twice ++ (d ++ drop (length twice - t) (drop t twice)) ≡ (a ++ b) ++ d
  fill-three = rw (fill-next m a xs b h (t - m)) (fill-last t (a ++ b) (drop (t - m) xs) d k)
