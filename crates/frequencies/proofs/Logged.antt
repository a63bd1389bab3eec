-- The logarithms of the bins' frequencies are the table's entries: at bin 0, which counts as 0 Hz,
-- L2 is 0. Assumes nothing.
use mathlib.Core.Path.{◌≡◌, refl, sym, ap, ◌∙◌}
use mathlib.Core.Bool.{Bool, true, false, cond}
use mathlib.Core.List.{List}
use Prim.Native.Nat.{ℕ, ◌<◌}
use native.Mathlib.Omega.{arith}
use lib.Dec.{eqb}
use lib.ListN.{length, get_or}
use lib.Seq.{ext_get_or}
use lib.Ieee.{Float, nan, le, of_bits}
use Rattle.lists.specs.Maps.{map_range, tabulate, between_in, length-map_range, get_or-map_range, length-tab, get_d_tabulate}
use Rattle.float32.specs.Remainder.{zero}
use Rattle.power.specs.Log.{positive_normal, L2}
use Rattle.power.proofs.Logs.{L2-elsewhere}
use Rattle.frequencies.specs.Frequency.{hertz, hertz_or_zero, log2_hz, bin_hertz, prepared}

zero-not : positive_normal zero ≡ false
unfolding le of_bits
zero-not = refl

zero-log : L2 zero ≡ zero
unfolding of_bits
zero-log = L2-elsewhere zero zero-not

entry : (spacing : Float) (bin : ℕ) → L2 (hertz_or_zero spacing bin) ≡ log2_hz spacing bin
unfolding hertz_or_zero log2_hz
entry spacing bin = go (eqb bin 0)
  where
    go : (b : Bool) → L2 (cond b zero (hertz spacing bin)) ≡ cond b zero (L2 (hertz spacing bin))
    go true = zero-log
    go false = refl

logged : (rate : Float) (size n : ℕ) → map_range (λ k v. L2 v) 0 n (tabulate n (hertz_or_zero (bin_hertz rate size))) ≡ tabulate n (prepared rate size)
logged rate size n =
    ext_get_or nan (map_range g 0 n xs) (tabulate n (prepared rate size)) (length-map_range g 0 n xs ∙ long ∙ sym (length-tab (prepared rate size) 0 n))
    (λ k l. at k (rw (length-map_range g 0 n xs, long) at l))
  where
    g : ℕ → Float → Float
    g k v = L2 v

    xs : List Float
    xs = tabulate n (hertz_or_zero (bin_hertz rate size))

    long : length xs ≡ n
    long = length-tab (hertz_or_zero (bin_hertz rate size)) 0 n

    at : (k : ℕ) → k < n → get_or (map_range g 0 n xs) k nan ≡ get_or (tabulate n (prepared rate size)) k nan
    at k l =
        get_or-map_range g 0 n xs k nan (rw long l) ∙ between_in g 0 n k (get_or xs k nan) (omega arith) l
        ∙ ap L2 (get_d_tabulate (hertz_or_zero (bin_hertz rate size)) n k nan l) ∙ entry (bin_hertz rate size) k ∙ sym (get_d_tabulate (prepared rate size) n k nan l)

pub filled : (rate : Float) (size n m : ℕ) (spacing : Float) (xs : List Float) → spacing ≡ bin_hertz rate size → xs ≡ tabulate n (hertz_or_zero spacing) → m ≡ n
    → map_range (λ k v. L2 v) 0 m xs ≡ tabulate n (prepared rate size)
filled rate size n m spacing xs s e l = rw (l, e, s) (logged rate size n)
