-- `log_in_step` meets its contract: proofs/LogParts.antt has the parts of v, and
-- proofs/LogMade.antt what is made of them. Assumes nothing.
use mathlib.Core.Path.{◌≡◌, sym, subst, ap, ◌∙◌}
use mathlib.Core.Bool.{false}
use Prim.Native.Nat.{ℕ, suc, ◌-◌, ◌/◌, ◌^◌, ◌<◌}
use native.Mathlib.Nat.{mod-eq_of_lt}
use native.Mathlib.Omega.{arith}
use lib.Bits.{bit_and, and_mask}
use lib.Dec.{T}
use lib.IntN.{ℤ, pos, sub_ℕ, ◌-ℤ◌}
use lib.Ieee.{Float, binary32, round, add, of_int, fits, to_bits}
use mir.Syntax.{w32}
use mir.Val.{to_z, of_z}
use Rattle.power.specs.Table.{I}
use Rattle.power.specs.Log.{greatest}
use Rattle.power.proofs.LogParts.{Parts, mant, fields, no_nan, digits_in, digits-mant, exponent-fits, exponent-is, exponent-held}
use Rattle.power.proofs.LogMade.{Found, log-sum, F-lt}
use Rattle.power.proofs.log2.log_in_step.Goals.{After-find, Start}
use Rattle.power.proofs.log2.log_in_step.Goals as goal

module _ (c : Start) where
  abbrev v : Float
  v = c.args.v

  held : T (fits binary32 v)
  held = subst T (sym c.well_formed.0.1) tt

  abbrev field : ℕ
  field = to_bits binary32 v / 8388608

  made : Parts v held c.requires.0
  made = fields v held c.requires.0

  field_lt : field < 512
  field_lt = let h = made.high in omega arith

pub float_to_bits-e : goal.float_to_bits-e
float_to_bits-e c = no_nan (v c) c.requires.0

pub overflow_cast-e : goal.overflow_cast-e
overflow_cast-e c = record { sfits = let h = field_lt c in omega arith }

pub overflow_sub-e : goal.overflow_sub-e
overflow_sub-e c = exponent-fits (field c) (field_lt c)

pub find-requires : goal.find-requires
find-requires c =
    let b = digits_in (v c) in
    let e = c.requires.1 in
    (rw e b.0, rw e b.1, c.requires.2)

found : (c : After-find) → Found (v c.before) (mant (v c.before) (held c.before) c.requires.0) (field c.before - 1) c.find.result
found c =
    let s = c.before in
    let p = made s in
    record {
      parts = p.parts;
      normal = p.full;
      finite = let h = p.high in omega arith;
      greatest-F = c.find.ensures ∙ ap (λ (t : ℕ). greatest I t (2 ^ 24)) (s.requires.1 ∙ digits-mant (v s) (held s) s.requires.0);
    }

-- the mask takes nothing away
kept : (c : After-find) → bit_and c.find.result 16777215 ≡ c.find.result
kept c = and_mask c.find.result 24 ∙ mod-eq_of_lt (F-lt (found c))

pub fraction-f-requires : goal.fraction-f-requires
fraction-f-requires c = rw (kept c) (let l = F-lt (found c) in omega arith)

pub int_to_float-result : goal.int_to_float-result
int_to_float-result c = let s = c.before.before.before in exponent-held (field s) (field_lt s)

pub returns : goal.returns
returns c =
    let f = c.before.before in
    let s = f.before in
    let n = field s in
    let l = (made s).low in
    let e : n ≡ suc (n - 1) = omega arith in
    ap (λ (x : Float). add binary32 x (of_int binary32 (to_z w32 (of_z w32 (to_z w32 n -ℤ pos 127))))) (c.fraction-f.ensures ∙ ap (λ (F : ℕ). round binary32 false F (2 ^ 24)) (kept f))
    ∙ ap (λ (z : ℤ). add binary32 (round binary32 false f.find.result (2 ^ 24)) (of_int binary32 z)) (exponent-is n (field_lt s) ∙ ap (λ (k : ℕ). sub_ℕ k 127) e)
    ∙ log-sum (found f)
