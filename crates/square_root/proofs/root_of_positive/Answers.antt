-- `root_of_positive` meets its contract: the nearest root of the digits has 24 places, and with the
-- exponent above it makes the definition's value. Assumes nothing.
use mathlib.Core.Path.{sym, ap, ◌∙◌}
use Prim.Native.Nat.{ℕ}
use native.Mathlib.Omega.{arith}
use lib.Ieee.{binary32}
use Rattle.square_root.specs.Root.{nearest_root}
use Rattle.square_root.proofs.RootRounding.{kept-most, bits_fit, bits-no-nan, bits_are}
use Rattle.square_root.proofs.root_of_positive.Goals.{After-nearest_root-q}
use Rattle.square_root.proofs.root_of_positive.Goals as goal

module _ (c : After-nearest_root-q) where
  abbrev digits : ℕ
  digits = c.even_power-p.result.digits

  abbrev fours : ℕ
  fours = c.even_power-p.result.fours

  abbrev root : ℕ
  root = c.nearest_root-q.result

pub overflow_cast-result : goal.overflow_cast-result
overflow_cast-result c =
    let p = c.even_power-p.ensures in
    record { fits = omega (arith, kept-most (digits c) (fours c) (root c) p.least p.most c.nearest_root-q.ensures) }

pub overflow_add-result : goal.overflow_add-result
overflow_add-result c =
    let p = c.even_power-p.ensures in
    record { fits = bits_fit (digits c) (fours c) (root c) p.least p.most c.nearest_root-q.ensures p.few }

pub float_from_bits-result : goal.float_from_bits-result
float_from_bits-result c =
    let p = c.even_power-p.ensures in
    bits-no-nan (digits c) (fours c) (root c) p.least p.most c.nearest_root-q.ensures p.few

pub returns : goal.returns
returns c =
    let p = c.even_power-p.ensures in
    bits_are (digits c) (fours c) (root c) p.least p.most c.nearest_root-q.ensures p.few ∙ ap (nearest_root binary32) (sym p.value)
