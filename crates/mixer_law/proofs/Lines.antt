-- What a request and a turn do to the line of those who wait, and to the counter. Assumes nothing.
use mathlib.Core.Path.{◌≡◌, refl, sym, ap, ◌∙◌}
use mathlib.Core.Bool.{Bool, true, false, cond}
use mathlib.Core.List.{List, [], ◌∷◌, ◌++◌}
use Prim.Native.Nat.{ℕ, suc, ◌+◌, ◌-◌, ◌<◌, min}
use native.Mathlib.Omega.{arith}
use lib.Dec.{eqb, leb}
use lib.ListN.{length, take, drop, set, length-set}
use lib.Seq.{length-take-le, take-suc-set}
use borrow.Author.Tests.{leb-false, eqb-true, eqb-false}
use Rattle.std.specs.Prelude.{Option, Some, None}
use Rattle.lists.specs.Maps.{length-map_range}
use Rattle.lists.specs.Closing.{closed, without, take-closed}
use Rattle.answer.specs.Refusal.{STRIP}
use Rattle.answer.specs.Reply.{done, refused}
use Rattle.answer.specs.Written.{written}
use Rattle.mixer.specs.declared.Mixer.{Mixer}
use Rattle.mixer.specs.Mixers.{strip_count, held_in, line, has, with_strip, mixer_asked}
use Rattle.mixer.specs.Mixers.{turn_names, counted, without_first, turned_by, mixer_turned}
use Rattle.mixer.proofs.Answers.{line-none, turned-nobody, turned-first}

-- the array has all its places
abbrev pub Whole : Mixer → Type 0
Whole mixer = length mixer.strips ≡ strip_count

-- a line after a request
abbrev pub joined : List ℕ → ℕ → List ℕ
joined l strip =
    cond (leb strip_count strip) l
    (cond (has strip l) l
    (cond (leb strip_count (length l)) l
    (l ++ strip ∷ [])))

-- the mixer after a request, by its three tests
abbrev asked : Mixer → ℕ → Bool → Bool → Bool → Mixer
asked mixer strip above waits full =
    written (cond above (refused STRIP 0) (done []))
    (cond waits mixer (cond full mixer (with_strip mixer strip)))
    mixer

module _ (mixer : Mixer) (whole : Whole mixer) where
  abbrev n : ℕ
  n = held_in mixer

  abbrev l : List ℕ
  l = line mixer

  pub line-length : length l ≡ n
  line-length = length-take-le n mixer.strips (omega (arith, whole))

  -- ---- a request
  line-added : (strip : ℕ) → n < strip_count → line (with_strip mixer strip) ≡ l ++ strip ∷ []
  line-added strip h =
      let e : min (n + 1) strip_count ≡ suc n = omega arith in
      ap (λ k. take k (set mixer.strips n strip)) e
      ∙ take-suc-set mixer.strips n strip (omega (arith, whole))

  pub line-asked : (strip : ℕ) → line (mixer_asked mixer strip) ≡ joined l strip
  line-asked strip = go (leb strip_count strip) (has strip l) (leb strip_count n) refl
    where
      go :
          (above waits full : Bool) → leb strip_count n ≡ full
          → line (asked mixer strip above waits full)
          ≡ cond above l (cond waits l (cond (leb strip_count (length l)) l (l ++ strip ∷ [])))
      go true waits full e = refl
      go false true full e = refl
      go false false true e = rw (line-length, e)
      go false false false e = rw (line-length, e) (line-added strip (leb-false strip_count n e))

  pub whole-asked : (strip : ℕ) → Whole (mixer_asked mixer strip)
  whole-asked strip = go (leb strip_count strip) (has strip l) (leb strip_count n)
    where
      go : (above waits full : Bool) → Whole (asked mixer strip above waits full)
      go true waits full = whole
      go false true full = whole
      go false false true = whole
      go false false false = length-set mixer.strips n strip ∙ whole

  -- ---- a turn
  line_taken : 0 < n → line (without_first mixer) ≡ drop 1 l
  unfolding without
  line_taken some =
      let e : min (n - 1) strip_count ≡ n - 1 = omega arith in
      ap (λ k. take k (closed 0 0 (n - 1) mixer.strips)) e
      ∙ take-closed 0 mixer.strips 0 n some (omega (arith, whole))

  pub line-turned : line (mixer_turned mixer) ≡ drop 1 l
  line-turned = go (eqb n 0) refl
    where
      go : (b : Bool) → eqb n 0 ≡ b → line (mixer_turned mixer) ≡ drop 1 l
      go true e =
          let z = eqb-true n 0 e in
          ap line (turned-nobody mixer z)
          ∙ line-none mixer z
          ∙ sym (ap (drop 1) (line-none mixer z))
      go false e =
          let some : 0 < n = omega (arith, eqb-false n 0 e) in
          ap line (turned-first mixer whole some) ∙ line_taken some

  pub whole-turned : Whole (mixer_turned mixer)
  whole-turned = go (turn_names mixer)
    where
      go : (named : Option ℕ) → Whole (turned_by named mixer)
      go (Some strip) = length-map_range _ 0 (n - 1) mixer.strips ∙ whole
      go None = whole

-- ---- the counter
module _ (mixer : Mixer) where
  pub served-asked : (strip : ℕ) → (mixer_asked mixer strip).served ≡ mixer.served
  served-asked strip =
      go (leb strip_count strip) (has strip (line mixer)) (leb strip_count (held_in mixer))
    where
      go : (above waits full : Bool) → (asked mixer strip above waits full).served ≡ mixer.served
      go true waits full = refl
      go false true full = refl
      go false false true = refl
      go false false false = refl

  abbrev pub tallied : Option ℕ → ℕ
  tallied (Some strip) = counted mixer.served
  tallied None = mixer.served

  pub served-turned : (mixer_turned mixer).served ≡ tallied (turn_names mixer)
  served-turned = go (turn_names mixer)
    where
      go : (named : Option ℕ) → (turned_by named mixer).served ≡ tallied named
      go (Some strip) = refl
      go None = refl
