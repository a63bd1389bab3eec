-- The dual of an accepted window has document 01's property: every value lies in -16..16, the
-- overlap is at most 16 and divides the length, which is all that the bound of float_laws asks.
-- Assumes nothing.
use mathlib.Core.Path.{◌≡◌}
use mathlib.Core.Bool.{true, false}
use mathlib.Core.List.{List}
use Prim.Native.Nat.{ℕ, ◌/◌, ◌≤◌, ◌<◌}
use native.Mathlib.Nat.{lt_of_lt_of_le}
use lib.Count.{count_trailing_zeros}
use lib.Dec.{T}
use lib.ListN.{length, get_or}
use lib.Ieee.{Float, nan, binary32, fits, le, of_bits, of_fields, odd}
use lib.Ieee.Fits.{and_l, and_r}
use Rattle.lists.proofs.Folds.{bad-before}
use Rattle.float_laws.specs.Window.{sixteen}
use Rattle.float_laws.proofs.Classes.{dual-window-bound}
use Rattle.float32.specs.Order.{within}
use Rattle.limits.specs.Limits as limits
use Rattle.windows.specs.Windows.{dual_of}
use Rattle.processing_calls.specs.Processing.{first_outside}
use Rattle.processing_calls.specs.DualWindow.{IsDual}
use Rattle.limits.proofs.Accepted.{overlap-at-most, overlap-divides}

window-low : (x : Float) → T (limits.window_value x) → T (le (sixteen true) x)
unfolding within of_bits of_fields odd count_trailing_zeros
window-low x t = and_l (le (sixteen true) x) (le x (sixteen false)) t

window-high : (x : Float) → T (limits.window_value x) → T (le x (sixteen false))
unfolding within of_bits of_fields odd count_trailing_zeros
window-high x t = and_r (le (sixteen true) x) (le x (sixteen false)) t

pub accepted-is-dual : (w dual : List Float) (overlap : ℕ) → length w ≤ first_outside limits.window_value w → T (limits.overlap overlap (length w))
    → ((i : ℕ) → i < length w → T (fits binary32 (get_or w i nan))) → dual ≡ dual_of w overlap → IsDual w dual overlap
accepted-is-dual w dual overlap all t f e r h enough =
    dual-window-bound w dual (length w / overlap) overlap r (overlap-divides overlap (length w) t) (overlap-at-most overlap (length w) t) h (λ i l. at i l) enough e
  where
    at : (i : ℕ) → i < length w → T (fits binary32 (get_or w i nan)) × T (le (sixteen true) (get_or w i nan)) × T (le (get_or w i nan) (sixteen false))
    at i l =
        let v = bad-before nan (λ k x. limits.window_value x) w i (lt_of_lt_of_le l all) in
        (f i l, window-low (get_or w i nan) v, window-high (get_or w i nan) v)
