-- The small fields of a head, there and back: each comes back from the number that they are packed
-- into, and a number whose last three bits are zero is packed from its fields. Assumes nothing.
use mathlib.Core.Path.{◌≡◌, refl, sym, ap, ◌∙◌}
use mathlib.Core.Bool.{Bool, true, false}
use Prim.Native.Nat.{ℕ, ◌+◌, ◌*◌, ◌/◌, ◌%◌, ◌^◌, ◌-◌, ◌<◌}
use native.Mathlib.Nat.{div-one, div-add-mod', mod-eq_of_lt}
use native.Mathlib.Omega.{arith}
use lib.Arith.{digits_div, digits_mod}
use lib.Bits.{bit_and, and_mask}
use lib.Count.{count_trailing_zeros}
use lib.Dec.{T, eqb, eqb→eq}
use lib.Pow.{shr-shr, shr_lt}
use mir.Val.{bool_byte}
use Rattle.lists.specs.Tested.{below_at}
use Rattle.limits.specs.Limits as limits
use Rattle.limits.proofs.Sizes.{size-power}
use Rattle.record_words.specs.Fields.{field_at}
use Rattle.record_heads.specs.Heads.{log_of, layer_number, packed}

-- ---- the fields of a packed number
module _ (log layer shape partials count : ℕ)
    (log-fits : log < 16) (layer_fits : layer < 2) (shape-fits : shape < 8)
    (partials-fits : partials < 32) (count_fits : count < 256) where
  abbrev with-layer : ℕ
  with-layer = log * 2 + layer

  abbrev with-shape : ℕ
  with-shape = with-layer * 8 + shape

  abbrev with-partials : ℕ
  with-partials = with-shape * 32 + partials

  abbrev with-count : ℕ
  with-count = with-partials * 256 + count

  abbrev number : ℕ
  number = packed log layer shape partials count

  past-zeros : number / 2 ^ 3 ≡ with-count
  unfolding packed
  past-zeros = digits_div with-count (omega arith)

  past-count : number / 2 ^ 11 ≡ with-partials
  past-count =
      sym (shr-shr number 3 8) ∙ ap (λ (m : ℕ). m / 256) past-zeros
      ∙ digits_div with-partials count_fits

  past-partials : number / 2 ^ 16 ≡ with-shape
  past-partials =
      sym (shr-shr number 11 5) ∙ ap (λ (m : ℕ). m / 32) past-count
      ∙ digits_div with-shape partials-fits

  past-shape : number / 2 ^ 19 ≡ with-layer
  past-shape =
      sym (shr-shr number 16 3) ∙ ap (λ (m : ℕ). m / 8) past-partials
      ∙ digits_div with-layer shape-fits

  past-layer : number / 2 ^ 20 ≡ log
  past-layer =
      sym (shr-shr number 19 1) ∙ ap (λ (m : ℕ). m / 2) past-shape ∙ digits_div log layer_fits

  pub log_back : field_at number 20 4 ≡ log
  log_back = ap (λ (m : ℕ). m % 16) past-layer ∙ mod-eq_of_lt log-fits

  pub layer-back : field_at number 19 1 ≡ layer
  layer-back = ap (λ (m : ℕ). m % 2) past-shape ∙ digits_mod log layer_fits

  pub shape-back : field_at number 16 3 ≡ shape
  shape-back = ap (λ (m : ℕ). m % 8) past-partials ∙ digits_mod with-layer shape-fits

  pub partials-back : field_at number 11 5 ≡ partials
  partials-back = ap (λ (m : ℕ). m % 32) past-count ∙ digits_mod with-shape partials-fits

  pub count-back : field_at number 3 8 ≡ count
  count-back = ap (λ (m : ℕ). m % 256) past-zeros ∙ digits_mod with-partials count_fits

  pub zeros-back : field_at number 0 3 ≡ 0
  unfolding packed
  zeros-back =
      ap (λ (m : ℕ). m % 8) (div-one (with-count * 8 + 0)) ∙ digits_mod with-count (omega arith)

  pub packed-below : number < 2 ^ 24
  unfolding packed
  packed-below = omega arith

-- ---- a number packed from its fields
pub packed-there :
    (n : ℕ) → n < 2 ^ 24 → field_at n 0 3 ≡ 0
    → packed (field_at n 20 4) (field_at n 19 1) (field_at n 16 3) (field_at n 11 5) (field_at n 3 8) ≡ n
unfolding packed
packed-there n h z =
    let zeros : n % 8 ≡ 0 = sym (ap (λ (m : ℕ). m % 8) (div-one n)) ∙ z in
    let a = div-add-mod' n 8 in
    let b = div-add-mod' (n / 2 ^ 3) 256 in
    let c = div-add-mod' (n / 2 ^ 11) 32 in
    let d = div-add-mod' (n / 2 ^ 16) 8 in
    let e = div-add-mod' (n / 2 ^ 19) 2 in
    let top : n / 2 ^ 20 % 16 ≡ n / 2 ^ 20 = mod-eq_of_lt (shr_lt 4 20 h) in
    let p = shr-shr n 3 8 in
    let q = shr-shr n 11 5 in
    let r = shr-shr n 16 3 in
    let s = shr-shr n 19 1 in
    omega arith

-- ---- size and layer by their numbers
pub log-of-size : (k : ℕ) → k < 16 → log_of (2 ^ k) ≡ k
unfolding count_trailing_zeros
log-of-size k h = eqb→eq (log_of (2 ^ k)) k (below_at 16 (λ k. eqb (log_of (2 ^ k)) k) tt k h)

-- of an accepted size
module _ (n : ℕ) (accepted : T (limits.size n)) where
  log_is : log_of n ≡ (size-power n accepted).exponent
  log_is =
      let p = size-power n accepted in
      ap log_of p.is ∙ log-of-size p.exponent (omega (arith, p.below))

  pub size-of-log : 2 ^ log_of n ≡ n
  size-of-log = ap (λ (k : ℕ). 2 ^ k) log_is ∙ sym (size-power n accepted).is

  pub log-below : log_of n < 16
  log-below = omega (arith, log_is, (size-power n accepted).below)

pub layer_below : (on : Bool) → layer_number on < 2
layer_below true = omega arith
layer_below false = omega arith

pub layer-of-number : (on : Bool) → eqb (layer_number on) 1 ≡ on
layer-of-number true = refl
layer-of-number false = refl

pub number-of-layer : (n : ℕ) → n < 2 → layer_number (eqb n 1) ≡ n
number-of-layer n h =
    eqb→eq (layer_number (eqb n 1)) n (below_at 2 (λ n. eqb (layer_number (eqb n 1)) n) tt n h)

-- ---- what the code computes
pub layer_is : (on : Bool) → bool_byte on ≡ layer_number on
layer_is true = refl
layer_is false = refl

-- the bits of a mask are a remainder
pub masked : (n places bits : ℕ) → bit_and (n / 2 ^ places) (2 ^ bits - 1) ≡ field_at n places bits
masked n places bits = and_mask (n / 2 ^ places) bits

-- a one shifted by fewer than 16 places
pub one_shifted : (k : ℕ) → k < 16 → 1 * 2 ^ k % 18446744073709551616 ≡ 2 ^ k
one_shifted k h =
    eqb→eq (1 * 2 ^ k % 18446744073709551616) (2 ^ k)
    (below_at 16 (λ k. eqb (1 * 2 ^ k % 18446744073709551616) (2 ^ k)) tt k h)
