-- Two chords, one rising by d from a and one falling by d' to b', and a point of each at one place,
-- m to r between the ends, of 2 ^ 14 parts in all. The sum of the points' squares is a quadratic in
-- r:
-- the mean of its ends less m r (d² + d'²). So it is at most the greater end, and at least the
-- lesser less a quarter of d² + d'². Over whole numbers. Assumes nothing.
use mathlib.Core.Path.{◌≡◌, sym, ap, ◌∙◌}
use mathlib.Core.Logic.{inl, inr}
use Prim.Native.Nat.{ℕ, ◌+◌, ◌-◌, ◌*◌, ◌≤◌}
use native.Mathlib.Nat.{le_trans, le_of_eq, mul-le-mul, mul-le-mul_left, mul_comm, mul_assoc, mul_left_comm, add-mul, mul-add, add_comm}
use native.Mathlib.Omega.{arith}
use Rattle.lists.specs.Interpolation.{here_or_on}

-- ---- one chord
line : (m r a d : ℕ) → (m * a + r * (a + d)) * (m * a + r * (a + d)) + m * r * (d * d) ≡ (m + r) * (m * (a * a) + r * ((a + d) * (a + d)))
line m r a d = simp (add-mul, mul-add, mul_assoc, mul_comm, mul_left_comm) (omega arith)

four : (m r : ℕ) → 4 * (m * r) ≤ (m + r) * (m + r)
four m r = elim (here_or_on m r) [ inl h ↦ go m (r - m) r (omega arith) | inr h ↦ rw (mul_comm m r, add_comm m r) (go r (m - r) m (omega arith)) ]
  where
    go : (x k y : ℕ) → y ≡ x + k → 4 * (x * y) ≤ (x + y) * (x + y)
    go x k y e = rw e (simp (add-mul, mul-add, mul_comm) (omega arith))

-- ---- both: the sums of squares at the ends lie in lo..hi, and the chords' own squares add to at
-- most dip
pub record Step (lo hi dip a d b' d' : ℕ) : Type 0 where
  pub start-low : lo ≤ a * a + (b' + d') * (b' + d')
  pub start-high : a * a + (b' + d') * (b' + d') ≤ hi
  pub end_low : lo ≤ (a + d) * (a + d) + b' * b'
  pub end-high : (a + d) * (a + d) + b' * b' ≤ hi
  pub narrow : d * d + d' * d' ≤ dip

module _ (m r a d b' d' : ℕ) where
  abbrev pub rising : ℕ
  rising = m * a + r * (a + d)

  abbrev pub falling : ℕ
  falling = r * b' + m * (b' + d')

  abbrev start : ℕ
  start = a * a + (b' + d') * (b' + d')

  abbrev end : ℕ
  end = (a + d) * (a + d) + b' * b'

  quadratic : rising * rising + falling * falling + m * r * (d * d + d' * d') ≡ (m + r) * (m * start + r * end)
  quadratic =
      let rest = r * (b' * b') + m * ((b' + d') * (b' + d')) in
      let e = line m r a d in
      let e' = line r m b' d' in
      let split : m * r * (d * d + d' * d') ≡ m * r * (d * d) + m * r * (d' * d') = mul-add (m * r) (d * d) (d' * d') in
      let turn : r * m * (d' * d') ≡ m * r * (d' * d') = ap (λ (z : ℕ). z * (d' * d')) (mul_comm r m) in
      let ends : (m + r) * (m * start + r * end) ≡ (m + r) * (m * (a * a) + r * ((a + d) * (a + d))) + (m + r) * rest =
      ap (λ (z : ℕ). (m + r) * z) (simp (mul-add) (omega arith)) ∙ mul-add (m + r) (m * (a * a) + r * ((a + d) * (a + d))) rest in
      let turn' : (r + m) * rest ≡ (m + r) * rest = ap (λ (z : ℕ). z * rest) (add_comm r m) in
      omega arith

  module _ (lo hi dip : ℕ) (parts : m + r ≡ 16384) (t : Step lo hi dip a d b' d') where
    mean : (x : ℕ) → m * x + r * x ≡ 16384 * x
    mean x = sym (add-mul m r x) ∙ ap (λ (z : ℕ). z * x) parts

    mean-low : 16384 * lo ≤ m * start + r * end
    mean-low = omega (arith, mean lo, mul-le-mul_left m t.start-low, mul-le-mul_left r t.end_low)

    mean-high : m * start + r * end ≤ 16384 * hi
    mean-high = omega (arith, mean hi, mul-le-mul_left m t.start-high, mul-le-mul_left r t.end-high)

    whole : rising * rising + falling * falling + m * r * (d * d + d' * d') ≡ 16384 * (m * start + r * end)
    whole = quadratic ∙ ap (λ (z : ℕ). z * (m * start + r * end)) parts

    dips : m * r * (d * d + d' * d') ≤ 67108864 * dip
    dips = mul-le-mul (let f : 4 * (m * r) ≤ 16384 * 16384 = le_trans (four m r) (le_of_eq (ap (λ (z : ℕ). z * z) parts)) in omega arith) t.narrow

    pub chord-low : 268435456 * lo ≤ rising * rising + falling * falling + 67108864 * dip
    chord-low = omega (arith, mean-low, whole, dips)

    pub chord-high : rising * rising + falling * falling ≤ 268435456 * hi
    chord-high = omega (arith, mean-high, whole)
