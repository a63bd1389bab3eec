-- The lobes of a tone's partials in a list: their number, and which one is at an index.
-- Assumes nothing.
use mathlib.Core.Path.{◌≡◌, refl, sym, ap, ◌∙◌, subst}
use mathlib.Core.Bool.{Bool, true, false, cond}
use mathlib.Core.List.{List, [], ◌∷◌, map}
use Prim.Native.Nat.{ℕ, zero, suc, ◌+◌, ◌-◌, ◌≤◌, ◌<◌}
use native.Mathlib.Nat.{add-zero, add-suc, suc-add, le_of_suc-le-suc, not-suc-le-zero}
use native.Mathlib.Omega.{arith}
use lib.ListN.{length, get_or, take, length-map}
use lib.Seq.{ext_get_or, get_or-take, length-take-le}
use lib.Ieee.{lt}
use Rattle.lists.specs.Maps.{between_in, get_or-map_range}
use Rattle.lists.specs.Turned.{Turned}
use Rattle.lists.specs.Folds.{range, take_until, range-next, range_none, until-step, until_stop, until_end}
use Rattle.power.specs.Log.{L2}
use Rattle.lobes.specs.declared.Grid.{Grid}
use Rattle.lobes.specs.declared.Tone.{Tone}
use Rattle.lobes.specs.declared.Lobe.{Lobe}
use Rattle.lobes.specs.Tone.{center_of}
use Rattle.lobes.specs.Distance.{Logs}
use Rattle.lobes.specs.Lobe.{lobe_of}
use Rattle.lobe_joins.specs.Joined.{no_lobe}
use Rattle.tone_lobes.specs.ToneLobes.{partials_of, lobes_of}
use Rattle.tone_lobes.proofs.Partials.{last-bin, center-log2}

-- ---- numbers in a row, up to the first that stops, are numbers in a row, and no more of them
until-range : (stop : ℕ → Bool) (i n : ℕ) → take_until stop (range i n) ≡ range i (length (take_until stop (range i n)))
unfolding take_until range
until-range stop i zero = refl
until-range stop i (suc n) = go (stop i) (take_until stop (range (suc i) n)) (until-range stop (suc i) n)
  where
    go : (b : Bool) (rest : List ℕ) → rest ≡ range (suc i) (length rest) → cond b [] (i ∷ rest) ≡ range i (length (cond b [] (i ∷ rest)))
    go true rest e = refl
    go false rest e = ap (λ (l : List ℕ). i ∷ l) e

until-few : (stop : ℕ → Bool) (i n : ℕ) → length (take_until stop (range i n)) ≤ n
unfolding take_until range
until-few stop i zero = omega arith
until-few stop i (suc n) = go (stop i) (take_until stop (range (suc i) n)) (until-few stop (suc i) n)
  where
    go : (b : Bool) (rest : List ℕ) → length rest ≤ n → length (cond b [] (i ∷ rest)) ≤ suc n
    go true rest h = omega arith
    go false rest h = omega arith

at-range : {A : Type 0} (f : ℕ → A) (i n k : ℕ) (d : A) → k < n → get_or (map f (range i n)) k d ≡ f (i + k)
unfolding range
at-range f i zero k d h = absurd (not-suc-le-zero h)
at-range f i (suc n) zero d h = rw (add-zero i)
at-range f i (suc n) (suc k) d h = at-range f (suc i) n k d (le_of_suc-le-suc h) ∙ rw (suc-add i k, add-suc i k)

module _ (grid : Grid) (tone : Tone) where
  abbrev above : ℕ → Bool
  above partial = lt grid.nyquist (center_of tone partial)

  -- the partials after the first n
  abbrev pub after : ℕ → List ℕ
  after n = take_until above (range (n + 1) (grid.partials + 1 - (n + 1)))

  pub after_none : length (after 0) ≡ length (partials_of grid tone)
  after_none = let z : grid.partials + 1 - 1 ≡ grid.partials = omega arith in rw z

  pub after_next : (n : ℕ) → n < grid.partials → above (n + 1) ≡ false → length (after n) ≡ suc (length (after (n + 1)))
  after_next n h e = ap length (until-step above (range-next (n + 1) (grid.partials + 1) (omega arith)) e)

  pub after_stop : (n : ℕ) → n < grid.partials → above (n + 1) ≡ true → length (after n) ≡ 0
  after_stop n h e = ap length (until_stop above (range-next (n + 1) (grid.partials + 1) (omega arith)) e)

  pub after-all : (n : ℕ) → grid.partials ≤ n → length (after n) ≡ 0
  after-all n h = ap length (until_end above (range_none (n + 1) (grid.partials + 1) (omega arith)))

  pub partials-few : length (partials_of grid tone) ≤ grid.partials
  partials-few = until-few above 1 grid.partials

module _ (grid : Grid) (logs : Logs) (tone : Tone) where
  abbrev pub nth : ℕ → Lobe → Lobe
  nth k held = lobe_of grid logs tone (k + 1)

  nth-lobe : (k : ℕ) → k < length (partials_of grid tone) → get_or (lobes_of grid logs tone) k no_lobe ≡ lobe_of grid logs tone (k + 1)
  nth-lobe k h =
      let z : 1 + k ≡ k + 1 = omega arith in
      ap (λ (l : List ℕ). get_or (map (lobe_of grid logs tone) l) k no_lobe) (until-range (above grid tone) 1 grid.partials)
      ∙ at-range (lobe_of grid logs tone) 1 (length (partials_of grid tone)) k no_lobe h ∙ ap (lobe_of grid logs tone) z

  -- a list whose first n entries are computed
  pub lobes-taken : (n : ℕ) {xs₀ xs : List Lobe} {i : ℕ} → Turned nth 0 xs₀ xs i → i ≡ n → n ≡ length (partials_of grid tone) → n ≤ length xs₀ → take n xs ≡ lobes_of grid logs tone
  lobes-taken n {xs₀} {xs} {i} t z e room =
      let l : length xs ≡ length xs₀ = t.len in
      let some : length (take n xs) ≡ n = length-take-le n xs (omega arith) in
      ext_get_or no_lobe (take n xs) (lobes_of grid logs tone) (some ∙ e ∙ sym (length-map (partials_of grid tone) (lobe_of grid logs tone))) (λ k h. at k (rw some at h))
    where
      at : (k : ℕ) → k < n → get_or (take n xs) k no_lobe ≡ get_or (lobes_of grid logs tone) k no_lobe
      at k h =
          get_or-take n xs k no_lobe h ∙ ap (λ (l : List Lobe). get_or l k no_lobe) t.is ∙ get_or-map_range nth 0 i xs₀ k no_lobe (omega arith)
          ∙ between_in nth 0 i k (get_or xs₀ k no_lobe) (omega arith) (omega arith) ∙ sym (nth-lobe k (omega arith))

  pub lobe-at : (lobes : List Lobe) (n : ℕ) → n ≡ length (partials_of grid tone) → take n lobes ≡ lobes_of grid logs tone → (p : ℕ) → p < n → get_or lobes p no_lobe ≡ lobe_of grid logs tone (p + 1)
  lobe-at lobes n e t p h = sym (get_or-take n lobes p no_lobe h) ∙ ap (λ (l : List Lobe). get_or l p no_lobe) t ∙ nth-lobe p (omega arith)

  pub known-lobes : (lobes : List Lobe) (n : ℕ) → n ≡ length (partials_of grid tone) → take n lobes ≡ lobes_of grid logs tone → (p : ℕ) → p < n
      → ((get_or lobes p no_lobe).center_log2 ≡ L2 (get_or lobes p no_lobe).center) × ((get_or lobes p no_lobe).last_bin ≤ grid.last_bin)
  known-lobes lobes n e t p h =
      subst (λ (lobe : Lobe). (lobe.center_log2 ≡ L2 lobe.center) × (lobe.last_bin ≤ grid.last_bin)) (sym (lobe-at lobes n e t p h)) (center-log2 grid logs tone (p + 1), last-bin grid logs tone (p + 1))
