-- What a caller of the static library gets for the reply of an open call: the number is returned,
-- the values are written where the call is done and the place where it is refused, and otherwise
-- they stay as they were. Assumes nothing.
use Rattle.std.specs.Prelude.{◌≡◌, ℕ, get_or, Float}
use Rattle.answer.specs.Reply.{Reply, done, refused, number}

-- the lent place after the call, which held p before
abbrev pub place_after : Reply → ℕ → ℕ
place_after (done vs) p = p
place_after (refused n q) p = q

-- the number lent for value k after the call, which held x before
abbrev pub value_after : ℕ → Reply → Float → Float
value_after k (done vs) x = get_or vs k x
value_after k (refused n q) x = x

-- A call without values answers r, and leaves q where the place p was.
pub record Given (reply : Reply) (r p q : ℕ) : Type 0 where
  pub answer : r ≡ number reply
  pub place : q ≡ place_after reply p

-- A call for a single number answers r, and leaves q where the place p was and y where the number x
-- was.
pub record GivenValue (reply : Reply) (r p q : ℕ) (x y : Float) : Type 0 where
  pub answer : r ≡ number reply
  pub place : q ≡ place_after reply p
  pub value : y ≡ value_after 0 reply x

-- A call for two numbers answers r, and leaves q where the place p was, y where the first number x
-- was and w where the second v was.
pub record GivenValues (reply : Reply) (r p q : ℕ) (x y v w : Float) : Type 0 where
  pub answer : r ≡ number reply
  pub place : q ≡ place_after reply p
  pub first : y ≡ value_after 0 reply x
  pub second : w ≡ value_after 1 reply v
