-- A lobe walked chunk by chunk: a chunk that holds the openings of its bins joins them, and a walk
-- from the lobe's first bin to its last joins the lobe. Assumes nothing.
use mathlib.Core.Path.{◌≡◌, sym, ap, ◌∙◌}
use mathlib.Core.Logic.{◌⊎◌, inl, inr}
use mathlib.Core.List.{List}
use Prim.Native.Nat.{ℕ, ◌+◌, ◌-◌, ◌≤◌, ◌<◌}
use native.Mathlib.Decide.{dec_lt}
use native.Mathlib.Omega.{arith}
use lib.ListN.{length, get_or}
use lib.Ieee.{Float, nan}
use Rattle.lists.specs.Maps.{map_at, map_range, between, between_in, between-low, between-high, get_or-map_range}
use Rattle.lists.specs.Turned.{Turned, turned-to}
use Rattle.lobes.specs.declared.Grid.{Grid}
use Rattle.lobes.specs.declared.Lobe.{Lobe}
use Rattle.lobes.specs.Distance.{Logs}
use Rattle.lobes.specs.Lobe.{opening}
use Rattle.lobe_joins.specs.Joined.{joined, lobe_joined}
use Rattle.lobe_joins.proofs.Reached.{lobe-there, lobe-away}
use Rattle.lists.specs.Runs.{map_same, turned-by}
use Rattle.lists.specs.Stages.{stage-same}

module _ (grid : Grid) (logs : Logs) (lobe : Lobe) (gain : Float) where
  -- the lobe joined to a bin that it reaches
  abbrev pub reached : ℕ → Float → Float
  reached bin held = joined gain held (opening grid logs lobe bin)

  -- one chunk, which ends at `next`
  pub chunk-joined : (start count next : ℕ) (before chunk : List Float) → count ≤ length before → start + count ≡ next
      → chunk ≡ map_range (λ k held. opening grid logs lobe (start + k)) 0 count before → {xs₀ xs ys : List Float} {lo : ℕ} → Turned reached lo xs₀ xs start
      → ys ≡ map_range (λ bin held. joined gain held (get_or chunk (bin - start) nan)) start (start + count) xs → Turned reached lo xs₀ ys next
  chunk-joined start count next before chunk room end e {xs₀} {xs} {ys} {lo} t w =
      turned-by count next t (w ∙ stage-same (λ bin held. joined gain held (get_or chunk (bin - start) nan)) reached start (start + count) xs at) end
    where
      f : ℕ → Float → Float
      f k held = opening grid logs lobe (start + k)

      read : (k : ℕ) → k < count → get_or chunk k nan ≡ opening grid logs lobe (start + k)
      read k h = ap (λ l. get_or l k nan) e ∙ get_or-map_range f 0 count before k nan (omega arith) ∙ between_in f 0 count k (get_or before k nan) (omega arith) h

      at : (bin : ℕ) (held : Float) → start ≤ bin → bin < start + count → joined gain held (get_or chunk (bin - start) nan) ≡ reached bin held
      at bin held p q =
          let z : start + (bin - start) ≡ bin = omega arith in
          ap (joined gain held) (read (bin - start) (omega arith) ∙ ap (opening grid logs lobe) z)

  -- the whole walk
  pub lobe-walked : {xs₀ xs : List Float} {i : ℕ} → Turned reached lobe.first_bin xs₀ xs i → (i ≤ lobe.last_bin + 1) ⊎ (i ≡ lobe.first_bin) → lobe.last_bin + 1 ≤ i
      → xs ≡ map_at (λ bin held. lobe_joined grid logs gain bin held lobe) xs₀
  lobe-walked {xs₀} {xs} {i} t w h =
      turned-to hi t w h ∙ map_same (between lo hi reached) (λ bin held. lobe_joined grid logs gain bin held lobe) xs₀ (λ k x p. at k x (dec_lt k lo) (dec_lt k hi))
    where
      lo : ℕ
      lo = lobe.first_bin

      hi : ℕ
      hi = lobe.last_bin + 1

      at : (k : ℕ) (x : Float) → Dec (k < lo) → Dec (k < hi) → between lo hi reached k x ≡ lobe_joined grid logs gain k x lobe
      at k x (yes p) w = between-low reached lo hi k x p ∙ sym (lobe-away grid logs gain k x lobe (inl p))
      at k x (no p) (yes q) = between_in reached lo hi k x (omega arith) q ∙ sym (lobe-there grid logs gain k x lobe (omega arith) (omega arith))
      at k x (no p) (no q) = between-high reached lo hi k x (omega arith) ∙ sym (lobe-away grid logs gain k x lobe (inr (omega arith)))
