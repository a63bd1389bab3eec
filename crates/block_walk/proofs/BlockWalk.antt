-- A walk by blocks: over each block the bounds hold, the bins before it and in it are joined, and
-- no lobe reaches a bin outside the walk. Assumes nothing.
use mathlib.Core.Path.{◌≡◌, refl, sym, ap, ◌∙◌, subst}
use mathlib.Core.Logic.{◌⊎◌, inl, inr}
use mathlib.Core.List.{List}
use Prim.Native.Nat.{ℕ, ◌+◌, ◌*◌, ◌≤◌, ◌<◌, min, max}
use native.Mathlib.Decide.{dec_lt}
use native.Mathlib.Omega.{arith}
use lib.Dec.{T, lit≤}
use lib.ListN.{length, get_or, take}
use lib.Seq.{get_or-take, length-take-le}
use lib.Ieee.{Float, nan, binary32}
use Rattle.lists.specs.Maps.{map_at, map_range, between, between_in, between-low, between-high, get_or-map_range, length-map_range}
use Rattle.lists.specs.Turned.{Turned, turned_none}
use Rattle.lists.specs.Runs.{map_same, turned-part}
use Rattle.lists.specs.Entries.{all-places}
use Rattle.float_laws.specs.Units.{real}
use Rattle.float_laws.specs.Rise.{Upto, upto-mul}
use Rattle.power.specs.Log.{L2}
use Rattle.blocks.specs.Ends.{block_of, Ends}
use Rattle.blocks.proofs.Bins.{low-at, high-at, low-known, high-known}
use Rattle.lobes.specs.declared.Grid.{Grid}
use Rattle.lobes.specs.declared.Lobe.{Lobe}
use Rattle.lobes.specs.Distance.{Logs, lent}
use Rattle.lobes.specs.Lobe.{opening}
use Rattle.lobe_bounds.specs.Bound.{bound_of}
use Rattle.lobe_bounds.proofs.Nearest.{InBlock}
use Rattle.lobe_bounds.proofs.Bounded.{bound-in-unit, opening-bounded}
use Rattle.lobe_joins.specs.Joined.{no_lobe, lobes_joined}
use Rattle.lobe_joins.proofs.Maxima.{keeps}
use Rattle.lobe_joins.proofs.Reached.{Away, lobes-away}
use Rattle.block_rows.specs.Most.{most_open, SoundLobes, Opennesses, BoundedLobes}
use Rattle.block_walk.specs.Compact.{RealTable, Within, InColumns}
use Rattle.block_walk.proofs.CompactIsPlain.{compact-is-plain}
use Rattle.block_rows.proofs.MostOpen.{all-in-unit}
use Rattle.block_walk.proofs.BlockRaised.{most-in-unit}

-- ---- the bounds over a block
module _ {table lows highs : List Float} (ends : Ends table lows highs) (known : RealTable table) (block : ℕ) where
  in_block : (bin : ℕ) → 1 + 64 * block ≤ bin → bin < 65 + 64 * block → bin < length table → InBlock (get_or lows block nan) (get_or highs block nan) (get_or table bin nan)
  in_block bin l h w =
      let z : block_of bin ≡ block = omega arith in
      let from : 1 ≤ bin = omega arith in
      subst (λ (b : ℕ). InBlock (get_or lows b nan) (get_or highs b nan) (get_or table bin nan)) z
      (record {
        low-real = low-known ends bin from w (λ x. T (real binary32 x)) known;
        high-real = high-known ends bin from w (λ x. T (real binary32 x)) known;
        is_real = known bin from w;
        from = low-at ends bin from w;
        to = high-at ends bin from w;
      })

  pub block-bounded : (grid : Grid) (lobes : List Lobe) (count : ℕ) (centers strengths peaks before : List Float) {bounds : List Float} → SoundLobes grid lobes count → InColumns lobes count centers strengths peaks
      → count ≤ length before → (end : ℕ) → end ≤ 65 + 64 * block → end ≤ length table
      → bounds ≡ map_range (λ p held. bound_of grid.width (get_or strengths p nan) (get_or centers p nan) (get_or peaks p nan) (get_or lows block nan) (get_or highs block nan)) 0 count before
      → BoundedLobes grid table lobes count bounds (1 + 64 * block) end
  block-bounded grid lobes count centers strengths peaks before {bounds} sound columns room end e w is p h =
      let lobe = get_or lobes p no_lobe in
      let m = (sound p h).measured in (
        subst (Upto binary32 0) (sym value) (bound-in-unit grid.width lobe.strength (L2 lobe.center) lobe.peak_squared (get_or lows block nan) (get_or highs block nan) m.strength-real m.strength-low),
        λ bin l q. subst (λ (x : Float). T (lib.Ieee.le (opening grid (lent table) lobe bin) x)) (sym value) (opening-bounded grid lobe m table bin (get_or lows block nan) (get_or highs block nan) (in_block bin l (omega arith) (omega arith))),
      )
    where
      f : ℕ → Float → Float
      f p held = bound_of grid.width (get_or strengths p nan) (get_or centers p nan) (get_or peaks p nan) (get_or lows block nan) (get_or highs block nan)

      value : get_or bounds p nan ≡ bound_of grid.width (get_or lobes p no_lobe).strength (L2 (get_or lobes p no_lobe).center) (get_or lobes p no_lobe).peak_squared (get_or lows block nan) (get_or highs block nan)
      value =
          let c = columns p h in
          ap (λ l. get_or l p nan) is ∙ get_or-map_range f 0 count before p nan (omega arith) ∙ between_in f 0 count p (get_or before p nan) (omega arith) h
          ∙ rw (c.1, c.0 ∙ (sound p h).log-of-center, c.2) refl

-- a column that was written entry by entry
pub column-at : (f : ℕ → Float) (count : ℕ) (before : List Float) {column : List Float} → count ≤ length before → column ≡ map_range (λ p held. f p) 0 count before → (p : ℕ) → p < count → get_or column p nan ≡ f p
column-at f count before room e p h =
    let g : ℕ → Float → Float = λ p held. f p in
    ap (λ l. get_or l p nan) e ∙ get_or-map_range g 0 count before p nan (omega arith) ∙ between_in g 0 count p (get_or before p nan) (omega arith) h

-- ---- what a side holds
module _ (grid : Grid) (table : List Float) (lobes : List Lobe) (count : ℕ) (sound : SoundLobes grid lobes count) (few : count ≤ length lobes) {gain : Float} (g : Upto binary32 3 gain) where
  abbrev raised : ℕ → Float → Float
  raised = lobes_joined grid (lent table) gain (take count lobes)

  raised-open : (bin : ℕ) {held : Float} → Upto binary32 3 held → Upto binary32 3 (raised bin held)
  raised-open bin {held} u =
      subst (Upto binary32 3) (sym (compact-is-plain grid table bin (take count lobes) (all-in-unit grid table lobes count sound few bin) u g))
      (keeps u (upto-mul binary32 0 3 (most_open grid (lent table) (take count lobes) bin) gain (lit≤ tt) (most-in-unit grid table lobes count sound few bin) g))

  pub range-open : (start end : ℕ) (xs : List Float) {ys : List Float} → Opennesses xs → ys ≡ map_range raised start end xs → Opennesses ys
  range-open start end xs {ys} u e = subst Opennesses (sym e) at
    where
      at : Opennesses (map_range raised start end xs)
      at k h =
          let l : k < length xs = omega (arith, length-map_range raised start end xs) in
          rw (get_or-map_range raised start end xs k nan l) (cases l (dec_lt k start) (dec_lt k end))
        where
          cases : k < length xs → Dec (k < start) → Dec (k < end) → Upto binary32 3 (between start end raised k (get_or xs k nan))
          cases l (yes p) q = rw (between-low raised start end k (get_or xs k nan) p) (u k l)
          cases l (no p) (yes q) = rw (between_in raised start end k (get_or xs k nan) (omega arith) q) (raised-open k (u k l))
          cases l (no p) (no q) = rw (between-high raised start end k (get_or xs k nan) (omega arith)) (u k l)

-- ---- bins that no lobe reaches
module _ (grid : Grid) (logs : Logs) (gain : Float) (lobes : List Lobe) (count : ℕ) (few : count ≤ length lobes) {first last : ℕ} (within : Within lobes count first last) where
  outside : (bin : ℕ) (held : Float) → bin < first ⊎ last < bin → lobes_joined grid logs gain (take count lobes) bin held ≡ held
  outside bin held o =
      lobes-away grid logs gain bin held (take count lobes)
      (all-places (Away bin) no_lobe (take count lobes) (λ i l. let h = subst (λ n. i < n) (length-take-le count lobes few) l in subst (Away bin) (sym (get_or-take count lobes i no_lobe h)) (away i h o)))
    where
      away : (i : ℕ) → i < count → bin < first ⊎ last < bin → Away bin (get_or lobes i no_lobe)
      away i h (inl p) = inl (omega (arith, (within i h).0))
      away i h (inr p) = inr (omega (arith, (within i h).1))

  pub walked : (lo hi : ℕ) (xs : List Float) → lo ≤ first → last < hi → map_range (lobes_joined grid logs gain (take count lobes)) lo hi xs ≡ map_at (lobes_joined grid logs gain (take count lobes)) xs
  walked lo hi xs a b = map_same (between lo hi raise) raise xs (λ k x p. at k x (dec_lt k lo) (dec_lt k hi))
    where
      raise : ℕ → Float → Float
      raise = lobes_joined grid logs gain (take count lobes)

      at : (k : ℕ) (x : Float) → Dec (k < lo) → Dec (k < hi) → between lo hi raise k x ≡ raise k x
      at k x (yes p) q = between-low raise lo hi k x p ∙ sym (outside k x (inl (omega arith)))
      at k x (no p) (yes q) = between_in raise lo hi k x (omega arith) q
      at k x (no p) (no q) = between-high raise lo hi k x (omega arith) ∙ sym (outside k x (inr (omega arith)))

-- a walk may begin at the block of the first bin, since no lobe reaches bin 0
pub from_first : (grid : Grid) (lobes : List Lobe) (count : ℕ) {first last : ℕ} → SoundLobes grid lobes count → Within lobes count first last → Within lobes count (max first 1) last
from_first grid lobes count sound within p h = (omega (arith, (within p h).0, (sound p h).first), (within p h).1)

-- ---- the walk: the bins below the current block are done, as far as the table reaches
module _ (g : ℕ → Float → Float) (lo n : ℕ) where
  abbrev pub Walked : ℕ → List Float → List Float → Type 0
  Walked block xs₀ xs = Turned g lo xs₀ xs (min (1 + 64 * block) n)

  pub walk_none : (block : ℕ) (xs : List Float) → lo ≡ 1 + 64 * block → lo ≤ n → Walked block xs xs
  walk_none block xs e h = let z : lo ≡ min (1 + 64 * block) n = omega arith in subst (Turned g lo xs xs) z (turned_none g lo xs)

  pub walk-next : (block : ℕ) {xs₀ xs ys : List Float} → Walked block xs₀ xs → 1 + 64 * block ≤ n → ys ≡ map_range g (1 + block * 64) (min (1 + block * 64 + 64) n) xs → Walked (block + 1) xs₀ ys
  walk-next block {xs₀} {xs} {ys} t h e =
      let z : min (1 + 64 * block) n ≡ 1 + block * 64 = omega arith in
      let w : min (1 + block * 64 + 64) n ≡ min (1 + 64 * (block + 1)) n = omega arith in
      subst (Turned g lo xs₀ ys) w (subst (λ l. Turned g lo xs₀ l (min (1 + block * 64 + 64) n)) (sym e) (turned-part (min (1 + block * 64 + 64) n) (subst (Turned g lo xs₀ xs) z t) (omega arith)))
