-- The field at a row of bins: the stages one after the other give each bin its openness, and its
-- gain; and of a field that does not rest that is the gain of its definition.
-- Assumes nothing.
use mathlib.Core.Path.{◌≡◌, refl, sym, ap, ◌∙◌}
use mathlib.Core.Bool.{Bool, true, false, cond}
use mathlib.Core.List.{List}
use Prim.Native.Nat.{ℕ, ◌+◌, ◌*◌, ◌<◌}
use native.Mathlib.Omega.{arith}
use borrow.Author.Tests.{le-ltb, ne_eqb}
use lib.Dec.{T, ltb→lt}
use lib.IntN.{ℤ}
use lib.Ieee.{Float, nan, inf, fin, binary32, up, down, of_bits, div, lt, eq, le}
use Rattle.lists.specs.Maps.{map_range}
use Rattle.lists.specs.Stages.{stage-same, stages}
use Rattle.float32.specs.Remainder.{one}
use Rattle.power.specs.Log.{L2}
use Rattle.decibels.specs.Gain.{gain_of}
use Rattle.scene.specs.declared.MotionShape.{MotionShape}
use Rattle.scene.specs.declared.MotionShape.TheVariants.{Ripple, Harmonic, Drift, Scan, Notch, Saw, Sprinkle, Cloud}
use Rattle.scene.specs.declared.MotionConfig.{MotionConfig}
use Rattle.motion.specs.Field.{min_display_frequency_hz, resting_depth_db, shape_at, openness, attenuation, motion_gain}
use Rattle.motion.specs.Settled.{settled}
use Rattle.frequencies.specs.Frequency.{hertz}
use Rattle.motion_rows.specs.Rows.{made_of_events, shaped, open_at, lowered, gain_there, gain_left}

-- ---- event-driven shapes
events-open : (shape : MotionShape) (x size phase : Float) → T (made_of_events shape) → shape_at shape x size phase ≡ one
events-open Ripple x size phase h = absurd h
events-open Harmonic x size phase h = absurd h
events-open Drift x size phase h = absurd h
events-open Scan x size phase h = absurd h
events-open Notch x size phase h = absurd h
events-open Saw x size phase h = absurd h
events-open Sprinkle x size phase h = refl
events-open Cloud x size phase h = refl

either : (b : Bool) → cond b one one ≡ one
either true = refl
either false = refl

module _ (field : MotionConfig) (spacing : Float) (start count : ℕ) where
  abbrev f : ℕ → Float
  f k = hertz spacing (start + k)

  -- an entry's openness
  abbrev pub opening : ℕ → Float → Float
  opening k held = open_at field (f k)

  abbrev ratio : ℕ → Float → Float
  ratio k held = div binary32 (f k) min_display_frequency_hz

  abbrev below : ℕ → Float → Float
  below k opened = cond (lt (f k) min_display_frequency_hz) one opened

  pub openings-staged : (xs : List Float)
      → map_range below 0 count (map_range (λ k x. shaped field x) 0 count (map_range (λ k v. L2 v) 0 count (map_range ratio 0 count xs))) ≡ map_range opening 0 count xs
  openings-staged xs =
      ap (λ l. map_range below 0 count (map_range (λ k x. shaped field x) 0 count l)) (stages (λ k v. L2 v) ratio 0 count xs)
      ∙ ap (map_range below 0 count) (stages (λ k x. shaped field x) (λ k held. L2 (ratio k held)) 0 count xs)
      ∙ stages below (λ k held. shaped field (L2 (ratio k held))) 0 count xs

  pub openings-of-events : made_of_events field.shape ≡ true → (xs : List Float) → map_range (λ k held. one) 0 count xs ≡ map_range opening 0 count xs
  openings-of-events e xs = stage-same (λ k held. one) opening 0 count xs (λ k held a b. sym (opened k))
    where
      opened : (k : ℕ) → open_at field (f k) ≡ one
      opened k =
          ap (cond (lt (f k) min_display_frequency_hz) one) (events-open field.shape (L2 (ratio k one)) field.size_octaves field.phase (rw e tt))
          ∙ either (lt (f k) min_display_frequency_hz)

  pub gains-staged : (xs : List Float)
      → map_range (λ k db. gain_of db) 0 count (map_range (λ k opened. lowered field.depth_db opened) 0 count (map_range opening 0 count xs))
      ≡ map_range (λ k held. gain_left field (f k)) 0 count xs
  unfolding gain_left
  gains-staged xs =
      ap (map_range (λ k db. gain_of db) 0 count) (stages (λ k opened. lowered field.depth_db opened) opening 0 count xs)
      ∙ stages (λ k db. gain_of db) (λ k held. lowered field.depth_db (opening k held)) 0 count xs

-- ---- the gains of a settled field at given places
pub places-staged : (field : MotionConfig) (count : ℕ) (xs : List Float)
    → map_range (λ k db. gain_of db) 0 count (map_range (λ k opened. lowered field.depth_db opened) 0 count (map_range (λ k x. shaped field x) 0 count xs))
    ≡ map_range (λ k x. gain_there field x) 0 count xs
places-staged field count xs =
    ap (map_range (λ k db. gain_of db) 0 count) (stages (λ k opened. lowered field.depth_db opened) (λ k x. shaped field x) 0 count xs)
    ∙ stages (λ k db. gain_of db) (λ k x. lowered field.depth_db (shaped field x)) 0 count xs

-- ---- the gain of the definition
-- a number above one that is finite and not negative is not at most that one
above : (m : ℕ) (e : ℤ) (y : Float) → T (lt (fin false m e) y) → le y (fin false m e) ≡ false
unfolding lt eq le
above m e nan h = absurd h
above m e (inf true) h = absurd h
above m e (inf false) h = refl
above m e (fin true n d) h = absurd h
above m e (fin false n d) h =
    let a = m * up e * down d in
    let b = n * up d * down e in
    let l : a < b = ltb→lt a b h in
    simp (le-ltb b a (omega arith), ne_eqb b a (λ z. omega arith))

-- a field of a greater depth does not rest
pub moving : (depth : Float) → lt resting_depth_db depth ≡ true → le depth resting_depth_db ≡ false
unfolding of_bits
moving depth e = above _ _ depth (rw e tt)

pub settled-gain : (config : MotionConfig) (frequency : Float) → le config.depth_db resting_depth_db ≡ false → gain_left (settled config) frequency ≡ motion_gain frequency config
unfolding gain_left settled motion_gain attenuation openness
settled-gain config frequency r = rw r refl
