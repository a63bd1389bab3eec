-- The gate: it never falls as the openness rises, is never below the floor and never negative, and
-- is at most 3 up to an openness of 1. Each step keeps the order, the factor of the openness being
-- never negative. Openness is taken up to 2 ^ 100, far beyond what any voice reaches, so that
-- nothing overflows. Assumes nothing.
use mathlib.Core.Bool.{false}
use lib.Dec.{T}
use lib.IntN.{pos}
use lib.Count.{count_trailing_zeros}
use lib.Ieee.{Float, fin, binary32, le, fits, add, sub, mul, sum, round, size, span, climb, units, odd}
use Rattle.float_laws.specs.Units.{number, real, real-number}
use Rattle.float_laws.specs.Order.{le-trans-f, le-refl-f, eq→le-f, eq-sym-f}
use Rattle.float_laws.specs.Round.{plus_zero}
use Rattle.float_laws.specs.Mono.{add-mono, add-number, mul_mono, mul-nonneg, mul-number}
use Rattle.float_laws.specs.Bounds.{one, real-between, add-nonneg, add-zero-f, mul-le-left}
use Rattle.float32.specs.Order.{clamp}
use Rattle.float32.specs.Remainder as rem
use Rattle.decibels.proofs.Gains.{two}
use Rattle.masks.specs.Gates.{emphasis_gain, floor_gain, gate_gain, limited_gate_gain}
use Rattle.float32.proofs.InUnit.{InUnit, clamp-in-unit}
use Rattle.masks.proofs.Emphasis.{floor-nonneg, floor-real, floor-at-most-one, lift-nonneg, lift-at-most-two, lift-real}

abbrev far : Float
far = fin false 1 (pos 100)

-- an openness: finite, from 0 up, and at most 2 ^ 100
pub record Openness (o : Float) : Type 0 where
  pub finite : T (real binary32 o)
  pub low : T (le plus_zero o)
  pub high : T (le o far)

pub unit-openness : (o : Float) → InUnit o → Openness o
unfolding fits le
unit-openness o u = record { finite = u.finite; low = u.low; high = le-trans-f binary32 o one far (real-number binary32 o u.finite) tt tt u.high tt }

module _ (depth width : Float) (h : T (fits binary32 depth)) where
  abbrev floor : Float
  floor = floor_gain depth

  abbrev lift : Float
  lift = sub binary32 (emphasis_gain width) (floor_gain depth)

  abbrev gated : Float → Float
  gated o = gate_gain (floor_gain depth) (emphasis_gain width) o

  opened-mono : (o o' : Float) → T (real binary32 o) → T (real binary32 o') → T (le plus_zero o) → T (le o o') → T (le (mul binary32 lift o) (mul binary32 lift o'))
  opened-mono o o' p q l k =
      mul_mono binary32 lift lift o o' (lift-real depth width h) (lift-real depth width h) p q (lift-nonneg depth width h) l
      (le-refl-f binary32 lift (real-number binary32 lift (lift-real depth width h))) k

  module _ (o : Float) (u : Openness o) where
    opened-0 : T (le plus_zero (mul binary32 lift o))
    opened-0 = mul-nonneg binary32 lift o (lift-real depth width h) u.finite (lift-nonneg depth width h) u.low

    opened-real : T (real binary32 (mul binary32 lift o))
    unfolding fits mul round size span climb units odd count_trailing_zeros
    opened-real =
        real-between binary32 plus_zero (mul binary32 lift o) (mul binary32 two far) (mul-number binary32 lift o (lift-real depth width h) u.finite) tt tt opened-0
        (mul_mono binary32 lift two o far (lift-real depth width h) tt u.finite tt (lift-nonneg depth width h) u.low (lift-at-most-two depth width h) u.high)

    gated-number : T (number binary32 (gated o))
    gated-number = add-number binary32 floor (mul binary32 lift o) (floor-real depth) opened-real

    pub gate-nonneg : T (le plus_zero (gated o))
    gate-nonneg = add-nonneg binary32 floor (mul binary32 lift o) (floor-real depth) opened-real (floor-nonneg depth) opened-0

    pub gate-real : T (real binary32 (gated o))
    unfolding fits mul add sum round size span climb units odd count_trailing_zeros
    gate-real =
        real-between binary32 plus_zero (gated o) (add binary32 one (mul binary32 two far)) gated-number tt tt gate-nonneg
        (add-mono binary32 floor one (mul binary32 lift o) (mul binary32 two far) (floor-real depth) tt opened-real tt (floor-at-most-one depth h)
        (mul_mono binary32 lift two o far (lift-real depth width h) tt u.finite tt (lift-nonneg depth width h) u.low (lift-at-most-two depth width h) u.high))

    pub gate-at-least-floor : T (le floor (gated o))
    unfolding fits
    gate-at-least-floor =
        let p = floor-real depth in
        let n = real-number binary32 floor p in
        let z = add binary32 floor plus_zero in
        let k = add-number binary32 floor plus_zero p tt in
        le-trans-f binary32 floor z (gated o) n k gated-number (eq→le-f binary32 floor z n k (eq-sym-f binary32 z floor k n (add-zero-f binary32 floor p)))
        (add-mono binary32 floor floor plus_zero (mul binary32 lift o) p p tt opened-real (le-refl-f binary32 floor n) opened-0)

  pub gate-never-falls : (o o' : Float) → Openness o → Openness o' → T (le o o') → T (le (gated o) (gated o'))
  gate-never-falls o o' u v k =
      add-mono binary32 floor floor (mul binary32 lift o) (mul binary32 lift o') (floor-real depth) (floor-real depth) (opened-real o u) (opened-real o' v)
      (le-refl-f binary32 floor (real-number binary32 floor (floor-real depth)))
      (opened-mono o o' u.finite v.finite u.low k)

  -- up to 1
  pub gate-at-most-three : (o : Float) → InUnit o → T (le (gated o) (fin false 3 (pos 0)))
  unfolding fits add sum round size span climb units odd count_trailing_zeros
  gate-at-most-three o u =
      let s = mul binary32 lift o in
      let w = opened-real o (unit-openness o u) in
      add-mono binary32 floor one s two (floor-real depth) tt w tt (floor-at-most-one depth h)
      (le-trans-f binary32 s lift two (real-number binary32 s w) (real-number binary32 lift (lift-real depth width h)) tt
      (mul-le-left binary32 lift o (lift-real depth width h) u.finite (lift-nonneg depth width h) u.low u.high)
      (lift-at-most-two depth width h))

-- ---- `note_gate_gain`: every finite openness is limited to 0..1
module _ (depth width openness : Float) (h : T (fits binary32 depth)) (p : T (real binary32 openness)) where
  limited : InUnit (clamp rem.zero rem.one openness)
  limited = clamp-in-unit openness (real-number binary32 openness p)

  pub note-gate-at-least-floor : T (le (floor_gain depth) (limited_gate_gain depth width openness))
  unfolding limited_gate_gain
  note-gate-at-least-floor = gate-at-least-floor depth width h _ (unit-openness _ limited)

  pub note-gate-at-most-three : T (le (limited_gate_gain depth width openness) (fin false 3 (pos 0)))
  unfolding limited_gate_gain
  note-gate-at-most-three = gate-at-most-three depth width h _ limited

  pub note-gate-real : T (real binary32 (limited_gate_gain depth width openness))
  unfolding limited_gate_gain
  note-gate-real = gate-real depth width h _ (unit-openness _ limited)
