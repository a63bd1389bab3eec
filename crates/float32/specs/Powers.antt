-- "powi(2) is v·v, powi(5) is (v·v)·(v·v)·v", each product rounded. Assumes nothing.
use Rattle.std.specs.Prelude.{Float}
use Rattle.std.specs.Float.{binary32}
use Rattle.std.specs.Float.Ieee.{mul}

abbrev pub square : Float → Float
square v = mul binary32 v v

abbrev pub fifth : Float → Float
fifth v = mul binary32 (mul binary32 (square v) (square v)) v
