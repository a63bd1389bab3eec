-- The dual window on a class, the indices equal modulo the hop: read as a list it is Window's, so
-- the exact sum of products over it is 1 within 2 ^ -19. Assumes nothing.
use Rattle.std.specs.Prelude.{◌≡◌, refl, Bool, true, false, cond, List, ℕ, ◌+◌, ◌-◌, ◌*◌, ◌/◌, ◌%◌, ◌^◌, ◌≤◌, ◌<◌, T, eqb, length, get_or, take, drop, Float}
use Rattle.std.proofs.Common.{sym, ap, ◌∙◌, subst, zero-add, one-mul, add-mul, mod-eq_of_lt, div-add-mod', div-lt_iff_lt-mul, le_trans, le_of_eq, lt_of_lt_of_le, arith, lit≤, length-drop, ext_get_or, get_or-append-add, get_or-drop, get_or-take}
use Rattle.std.proofs.Math.Decide.{dec_lt}
use Rattle.std.proofs.Math.Arith.{digits_lt, digits_mod}
use Rattle.std.specs.Int.Count.{count_trailing_zeros}
use Rattle.std.proofs.Math.ListN.{get_or-append}
use Rattle.std.specs.Float.{nan, Format, binary32}
use Rattle.std.specs.Float.Ieee.{prec, emax, low, fits, le, unlike, add, mul, div, of_bits, odd, of_fields}
use Rattle.lists.specs.Maps.{tabulate, length-tab, get_d_tabulate}
use Rattle.lists.specs.Folds.{range, fold-tab}
use Rattle.lists.specs.Totals.{total, All, all-tab, total-tab, total-same, total-none, residues, residues-rows}
use Rattle.float_laws.specs.Units.{mag, sign, real}
use Rattle.float_laws.specs.Order.{maximum}
use Rattle.float_laws.specs.Round.{plus_zero}
use Rattle.float_laws.specs.Near.{Near, near-20}
use Rattle.float_laws.specs.Window.{energy, dual, turn, length-turn, AtMost16, at-most-16, sixteen, window-near, window-sign, window-real}
use Rattle.float_laws.specs.Classes.{energy_at, dual_by, gain, loss, SumsToOne, least_divisor, dual_at}

gain-alike : (f : Format) (x y : Float) → sign y ≡ sign x → gain f x y ≡ mag f x * mag f y
gain-alike f x y e = rw e (go (sign x))
  where
    go : (s : Bool) → cond (unlike s s) 0 (mag f x * mag f y) ≡ mag f x * mag f y
    go true = refl
    go false = refl

loss-alike : (f : Format) (x y : Float) → sign y ≡ sign x → loss f x y ≡ 0
loss-alike f x y e = rw e (go (sign x))
  where
    go : (s : Bool) → cond (unlike s s) (mag f x * mag f y) 0 ≡ 0
    go true = refl
    go false = refl

-- ---- a class as a list
module _ (w : List Float) (hop overlap r : ℕ) (len : length w ≡ overlap * hop) (low-r : r < hop) where
  abbrev class : List Float
  class = tabulate overlap (λ j. get_or w (j * hop + r) nan)

  length-class : length class ≡ overlap
  length-class = length-tab (λ j. get_or w (j * hop + r) nan) 0 overlap

  class-at : (j : ℕ) → j < overlap → get_or class j nan ≡ get_or w (j * hop + r) nan
  class-at j h = get_d_tabulate (λ j. get_or w (j * hop + r) nan) overlap j nan h

  index-lt : (j : ℕ) → j < overlap → j * hop + r < length w
  index-lt j h = rw len (digits_lt h low-r)

  -- what the index j * hop + r reads at offset k, before the end and after it
  reads : (j k : ℕ) → j < overlap → k < overlap → get_or w ((j * hop + r + k * hop) % length w) nan ≡ get_or (turn j class) k nan
  reads j k J K = go (dec_lt (j + k) overlap)
    where
      count : length (drop j class) ≡ overlap - j
      count = length-drop j class ∙ ap (λ (n : ℕ). n - j) length-class

      shift : j * hop + r + k * hop ≡ (j + k) * hop + r
      shift = omega (arith, add-mul j k hop)

      go : Dec (j + k < overlap) → get_or w ((j * hop + r + k * hop) % length w) nan ≡ get_or (turn j class) k nan
      go (yes h) =
          ap (λ (i : ℕ). get_or w i nan) (ap (λ (i : ℕ). i % length w) shift ∙ mod-eq_of_lt (index-lt (j + k) h))
          ∙ sym (get_or-append (drop j class) (take j class) nan k (rw count (omega arith)) ∙ get_or-drop j class k nan ∙ class-at (j + k) h)
      go (no h) =
          let n = j + k - overlap in
          let e : j + k ≡ overlap + n = omega arith in
          let m : (j + k) * hop + r ≡ 1 * length w + (n * hop + r) = omega (arith, ap (λ (z : ℕ). z * hop) e, add-mul overlap n hop, one-mul (length w)) in
          let at : k ≡ length (drop j class) + n = omega (arith, count) in
          ap (λ (i : ℕ). get_or w i nan) (ap (λ (i : ℕ). i % length w) (shift ∙ m) ∙ digits_mod 1 (index-lt n (omega arith)))
          ∙ sym
          (ap (λ (i : ℕ). get_or (turn j class) i nan) at ∙ get_or-append-add (drop j class) (take j class) n nan ∙ get_or-take j class n nan (omega arith) ∙ class-at n (omega arith))

  seen : (j : ℕ) → j < overlap → tabulate overlap (λ k. get_or w ((j * hop + r + k * hop) % length w) nan) ≡ turn j class
  seen j J =
      let g : ℕ → Float = λ k. get_or w ((j * hop + r + k * hop) % length w) nan in
      ext_get_or nan (tabulate overlap g) (turn j class) (length-tab g 0 overlap ∙ sym (length-turn j class ∙ length-class))
      (λ k h. let K : k < overlap = lt_of_lt_of_le h (le_of_eq (length-tab g 0 overlap)) in get_d_tabulate g overlap k nan K ∙ reads j k J K)

  -- so the step at that index is Window's, at place j of the list
  dual-class : (f : Format) (c : Float) (j : ℕ) → j < overlap → dual_by f c w hop overlap (j * hop + r) ≡ dual f c (turn j class) (get_or class j nan)
  dual-class f c j J =
      ap (λ (x : Float). div f x (maximum (energy_at f w hop overlap (j * hop + r)) c)) (sym (class-at j J))
      ∙ ap (λ (s : Float). div f (get_or class j nan) (maximum s c))
      (fold-tab (λ s x. add f s (mul f x x)) (λ k. get_or w ((j * hop + r + k * hop) % length w) nan) plus_zero 0 overlap ∙ ap (energy f plus_zero) (seen j J))

  -- ---- the bound
  module _ (f : Format) (P : 2 ^ (prec f - 1) ≡ 8388608) (big : 2 ^ 57 ≤ 2 ^ low f) (wide : 64 ≤ emax f) (c : Float) (cr : T (real f c))
      (cs : 2 ^ 39 * mag f c ≤ 2 ^ low f) (few : overlap ≤ 16)
      (ok : (i : ℕ) → i < length w → AtMost16 f (get_or w i nan)) (enough : 2 ^ low f * 2 ^ low f ≤ 2 ^ 30 * residues hop r (length w) (λ i. mag f (get_or w i nan) * mag f (get_or w i nan))) where
    rows : (g : ℕ → ℕ) → residues hop r (length w) g ≡ total (λ j. g (j * hop + r)) (range 0 overlap)
    rows g = ap (λ (n : ℕ). residues hop r n g) len ∙ residues-rows hop r g low-r overlap

    oks : All (AtMost16 f) class
    oks = all-tab (AtMost16 f) (λ j. get_or w (j * hop + r) nan) 0 overlap (λ j a b. ok (j * hop + r) (index-lt j (rw zero-add at b)))

    fews : length class ≤ 16
    fews = le_trans (le_of_eq length-class) few

    enoughs : 2 ^ low f * 2 ^ low f ≤ 2 ^ 30 * total (λ x. mag f x * mag f x) class
    enoughs =
        subst (λ (z : ℕ). 2 ^ low f * 2 ^ low f ≤ 2 ^ 30 * z)
        (rows (λ i. mag f (get_or w i nan) * mag f (get_or w i nan)) ∙ sym (total-tab (λ x. mag f x * mag f x) (λ j. get_or w (j * hop + r) nan) 0 overlap)) enough

    abbrev own : ℕ → Float
    own i = dual_by f c w hop overlap i

    alike : (j : ℕ) → j < overlap → sign (own (j * hop + r)) ≡ sign (get_or w (j * hop + r) nan)
    alike j J = ap sign (dual-class f c j J) ∙ window-sign f P big wide c cr cs class oks fews enoughs j (rw length-class J) ∙ ap sign (class-at j J)

    gains : residues hop r (length w) (λ i. gain f (get_or w i nan) (own i)) ≡ total (λ j. mag f (get_or class j nan) * mag f (dual f c (turn j class) (get_or class j nan))) (range 0 (length class))
    gains =
        rows (λ i. gain f (get_or w i nan) (own i))
        ∙ total-same (λ j. gain f (get_or w (j * hop + r) nan) (own (j * hop + r)))
        (λ j. mag f (get_or class j nan) * mag f (dual f c (turn j class) (get_or class j nan))) 0 overlap (λ j a b. at j (rw zero-add at b))
        ∙ ap (λ (n : ℕ). total (λ j. mag f (get_or class j nan) * mag f (dual f c (turn j class) (get_or class j nan))) (range 0 n)) (sym length-class)
      where
        at : (j : ℕ) → j < overlap
            → gain f (get_or w (j * hop + r) nan) (own (j * hop + r)) ≡ mag f (get_or class j nan) * mag f (dual f c (turn j class) (get_or class j nan))
        at j J =
            gain-alike f (get_or w (j * hop + r) nan) (own (j * hop + r)) (alike j J)
            ∙ ap (λ (x : Float). mag f x * mag f (own (j * hop + r))) (sym (class-at j J))
            ∙ ap (λ (y : Float). mag f (get_or class j nan) * mag f y) (dual-class f c j J)

    losses : residues hop r (length w) (λ i. loss f (get_or w i nan) (own i)) ≡ 0
    losses =
        rows (λ i. loss f (get_or w i nan) (own i))
        ∙ total-none (λ j. loss f (get_or w (j * hop + r) nan) (own (j * hop + r))) 0 overlap
        (λ j a b. loss-alike f (get_or w (j * hop + r) nan) (own (j * hop + r)) (alike j (rw zero-add at b)))

    finites : (i : ℕ) → i < length w → i % hop ≡ r → T (real f (get_or w i nan)) × T (real f (own i))
    finites i l e =
        let j = i / hop in
        let hop-pos : 0 < hop = omega arith in
        let J : j < overlap = (div-lt_iff_lt-mul hop-pos).1 (rw len at l) in
        let is : j * hop + r ≡ i = ap (λ (z : ℕ). j * hop + z) (sym e) ∙ div-add-mod' i hop in (
          (ok i l).is_real,
          subst (λ (k : ℕ). T (real f (own k))) is
              (subst (λ (y : Float). T (real f y)) (sym (dual-class f c j J)) (window-real f P big wide c cr cs class oks fews enoughs j (rw length-class J))),
        )

    pub dual-sums-to-one : SumsToOne f (length w) hop r (λ i. get_or w i nan) own
    dual-sums-to-one =
        let n = subst (λ (z : ℕ). Near 20 z (2 ^ low f * 2 ^ low f)) (sym gains) (window-near f P big wide c cr cs class oks fews enoughs) in
        let b = near-20 (residues hop r (length w) (λ i. gain f (get_or w i nan) (own i))) (2 ^ low f * 2 ^ low f) n in
        let z = losses in
        record { finite = finites; most = omega (arith, b.0); least = omega (arith, b.1) }

-- the law sees the values at the indices below n alone
sums_same : (f : Format) (n hop r : ℕ) (x y z : ℕ → Float) → ((i : ℕ) → i < n → y i ≡ z i) → SumsToOne f n hop r x y → SumsToOne f n hop r x z
sums_same f n hop r x y z e b =
    record {
      finite = λ i l m. ((b.finite i l m).0, subst (λ (v : Float). T (real f v)) (e i l) (b.finite i l m).1);
      most = omega (arith, b.most, same (gain f), same (loss f));
      least = omega (arith, b.least, same (gain f), same (loss f));
    }
  where
    at : (h : Float → Float → ℕ) (i : ℕ) → i < n → cond (eqb (i % hop) r) (h (x i) (y i)) 0 ≡ cond (eqb (i % hop) r) (h (x i) (z i)) 0
    at h i l = ap (λ (v : Float). cond (eqb (i % hop) r) (h (x i) v) 0) (e i l)

    same : (h : Float → Float → ℕ) → residues hop r n (λ i. h (x i) (y i)) ≡ residues hop r n (λ i. h (x i) (z i))
    same h =
        total-same (λ i. cond (eqb (i % hop) r) (h (x i) (y i)) 0) (λ i. cond (eqb (i % hop) r) (h (x i) (z i)) 0) 0 n (λ i p q. at h i (rw zero-add at q))

-- ---- f32, with the code's least divisor, 1.0e-12
divisor-real : T (real binary32 least_divisor)
unfolding of_bits of_fields odd count_trailing_zeros fits
divisor-real = tt

divisor-small : 2 ^ 39 * mag binary32 least_divisor ≤ 2 ^ low binary32
unfolding of_bits of_fields odd count_trailing_zeros mag
divisor-small = lit≤ tt

-- document 01: where the squares of the analysis values at all indices equal modulo length/overlap
-- add to at least 2 ^ -30, the exact sum of analysis times synthesis over them is 1 within 2 ^ -19
pub dual-window-bound : (w s : List Float) (hop overlap r : ℕ) → length w ≡ overlap * hop → overlap ≤ 16 → r < hop
    → ((i : ℕ) → i < length w → T (fits binary32 (get_or w i nan)) × T (le (sixteen true) (get_or w i nan)) × T (le (get_or w i nan) (sixteen false)))
    → 2 ^ low binary32 * 2 ^ low binary32 ≤ 2 ^ 30 * residues hop r (length w) (λ i. mag binary32 (get_or w i nan) * mag binary32 (get_or w i nan))
    → s ≡ tabulate (length w) (dual_at w hop overlap)
    → SumsToOne binary32 (length w) hop r (λ i. get_or w i nan) (λ i. get_or s i nan)
dual-window-bound w s hop overlap r len few low-r limits enough e =
    sums_same binary32 (length w) hop r (λ i. get_or w i nan) (dual_at w hop overlap) (λ i. get_or s i nan)
    (λ i h. sym (ap (λ (l : List Float). get_or l i nan) e ∙ get_d_tabulate (dual_at w hop overlap) (length w) i nan h))
    (dual-sums-to-one w hop overlap r len low-r binary32 refl (lit≤ tt) (lit≤ tt) least_divisor divisor-real divisor-small few
    (λ i h. let m = limits i h in at-most-16 binary32 (get_or w i nan) (lit≤ tt) m.0 m.1 m.2) enough)
