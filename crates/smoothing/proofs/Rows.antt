-- The stages of a row of bins: the decibels of its gains, and the gains that are moved or softened
-- by them, which are the definition's. Assumes nothing.
use mathlib.Core.Path.{◌≡◌, refl, ap, ◌∙◌}
use mathlib.Core.List.{List}
use Prim.Native.Nat.{ℕ, ◌+◌, ◌-◌, ◌≤◌, ◌<◌}
use native.Mathlib.Omega.{arith}
use lib.ListN.{length, get_or}
use lib.Ieee.{Float, nan}
use Rattle.lists.specs.Maps.{map_range}
use Rattle.lists.specs.Stages.{row_at, stage-same}
use Rattle.smoothing.specs.Smoothing.{decibels_of, softened, softened_at, nearer, toward}

module _ (start count : ℕ) (gains before : List Float) {row : List Float} (room : count ≤ length before) (e : row ≡ map_range (λ k held. decibels_of (get_or gains (start + k) nan)) 0 count before) where
  pub decibels-at : (i : ℕ) → start ≤ i → i < start + count → get_or row (i - start) nan ≡ decibels_of (get_or gains i nan)
  decibels-at i l u =
      let z : start + (i - start) ≡ i = omega arith in
      row_at nan (λ k. decibels_of (get_or gains (start + k) nan)) count before room e (i - start) (omega arith) ∙ ap (λ (j : ℕ). decibels_of (get_or gains j nan)) z

  pub moved : (part blend : Float) (xs : List Float) {ys : List Float} → part ≡ blend → ys ≡ map_range (λ i x. nearer part (decibels_of x) (get_or row (i - start) nan)) start (start + count) xs
      → ys ≡ map_range (λ i x. toward blend x (get_or gains i nan)) start (start + count) xs
  moved part blend xs b w =
      w
      ∙ stage-same (λ i x. nearer part (decibels_of x) (get_or row (i - start) nan)) (λ i x. toward blend x (get_or gains i nan)) start (start + count) xs
      (λ i x l u. ap (λ (p : Float). nearer p (decibels_of x) (get_or row (i - start) nan)) b ∙ ap (λ (y : Float). nearer blend (decibels_of x) y) (decibels-at i l u))

-- the decibels of a row that begins one bin to the left of `start`
pub softened-inside : (start count : ℕ) (source before : List Float) {row : List Float} (xs : List Float) {ys : List Float} → 1 ≤ start → count + 2 ≤ length before
    → row ≡ map_range (λ k held. decibels_of (get_or source (start - 1 + k) nan)) 0 (count + 2) before
    → ys ≡ map_range (λ b x. softened (get_or row (b - start) nan) (get_or row (b - start + 1) nan) (get_or row (b - start + 2) nan)) start (start + count) xs
    → ys ≡ map_range (λ b x. softened_at source b) start (start + count) xs
softened-inside start count source before {row} xs first room e w =
    w
    ∙ stage-same (λ b x. softened (get_or row (b - start) nan) (get_or row (b - start + 1) nan) (get_or row (b - start + 2) nan)) (λ b x. softened_at source b) start (start + count) xs
    (λ b x l u. same b l u)
  where
    -- the entry of the bin i
    entry : (i k : ℕ) → start ≤ i + 1 → i ≤ start + count → k ≡ i - (start - 1) → get_or row k nan ≡ decibels_of (get_or source i nan)
    entry i k l u z = ap (λ (j : ℕ). get_or row j nan) z ∙ decibels-at (start - 1) (count + 2) source before room e i (omega arith) (omega arith)

    same : (b : ℕ) → start ≤ b → b < start + count
        → softened (get_or row (b - start) nan) (get_or row (b - start + 1) nan) (get_or row (b - start + 2) nan) ≡ softened_at source b
    same b l u = rw (entry (b - 1) (b - start) (omega arith) (omega arith) (omega arith), entry b (b - start + 1) (omega arith) (omega arith) (omega arith), entry (b + 1) (b - start + 2) (omega arith) (omega arith) (omega arith)) refl
