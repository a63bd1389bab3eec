-- The same voice matches as the chord law asks, both ways round: of two equal numbers neither is
-- lower. Assumes nothing.
use mathlib.Core.Path.{◌≡◌, refl, sym, subst}
use mathlib.Core.Bool.{Bool, true, false, not}
use Prim.Native.Nat.{ℕ, ◌<◌}
use native.Mathlib.Nat.{lt_irrefl}
use lib.Dec.{T}
use lib.Ieee.{Float, binary32, eq, lt}
use Rattle.float_laws.specs.Units.{number, real, real-number, key, lt→key, eq→key}
use Rattle.float_laws.specs.Order.{eq-sym-f}
use Rattle.scene.specs.declared.MaskVoice.{MaskVoice}
use Rattle.scene.specs.declared.Pitch.{Pitch}
use Rattle.scene.specs.declared.Pitch.TheVariants.{Note, Hertz}
use Rattle.scene.specs.Voices.{RealPitch, RealVoice}
use Rattle.chord_law.specs.Voices.{NoLower, SamePitch, Matched}
use Rattle.chord_law.specs.SameVoices.{SameVoice}

-- ---- of two equal numbers neither is lower
pub not_lower :
    (x y : Float) → T (number binary32 x) → T (number binary32 y) → T (eq x y) → NoLower x y
not_lower x y p q e = go (lt y x) refl
  where
    go : (b : Bool) → lt y x ≡ b → T (not b)
    go false r = tt
    go true r =
        let l = lt→key binary32 y x q p (subst T (sym r) tt) in
        absurd (lt_irrefl (key binary32 y)
        (subst (λ (k : ℕ). key binary32 y < k) (eq→key binary32 x y p q e) l))

same-real : (x y : Float) → T (real binary32 x) → T (real binary32 y) → T (eq x y) → NoLower x y
same-real x y p q e = not_lower x y (real-number binary32 x p) (real-number binary32 y q) e

-- ---- the same voice matches
pub same-matched : (a b : MaskVoice) → RealVoice a → RealVoice b → SameVoice a b → Matched a b
same-matched a b r s v =
    record {
      pitch = v.pitch;
      timbre = v.timbre;
      pan = v.pan;
      level =
          same-real a.level b.level r.level-unit.is_real s.level-unit.is_real
          v.level;
      pressure =
          same-real a.pressure b.pressure r.pressure-real s.pressure-real
          v.pressure;
      volume =
          same-real a.volume_gain b.volume_gain r.volume-real s.volume-real
          v.volume;
      expression =
          same-real a.expression_gain b.expression_gain r.expression-real
          s.expression-real v.expression;
    }

-- ---- and is the same turned round
pub same-turned : (a b : MaskVoice) → RealVoice a → RealVoice b → SameVoice a b → SameVoice b a
same-turned a b r s v =
    record {
      pitch = turned-pitch a.pitch b.pitch r.pitch-real s.pitch-real v.pitch;
      level =
          turned a.level b.level r.level-unit.is_real s.level-unit.is_real
          v.level;
      pressure =
          turned a.pressure b.pressure r.pressure-real s.pressure-real v.pressure;
      timbre = turned a.timbre b.timbre r.timbre-real s.timbre-real v.timbre;
      volume =
          turned a.volume_gain b.volume_gain r.volume-real s.volume-real
          v.volume;
      expression =
          turned a.expression_gain b.expression_gain r.expression-real
          s.expression-real v.expression;
      pan = turned a.pan b.pan r.pan-real s.pan-real v.pan;
    }
  where
    turned :
        (x y : Float) → T (real binary32 x) → T (real binary32 y) → T (eq x y) → T (eq y x)
    turned x y p q e =
        eq-sym-f binary32 x y (real-number binary32 x p) (real-number binary32 y q) e

    turned-pitch : (p q : Pitch) → RealPitch p → RealPitch q → SamePitch p q → SamePitch q p
    turned-pitch (Note n t) (Note m u) p q h =
        record {
          note = sym h.note;
          tuning = turned t u p.tuning-real q.tuning-real h.tuning;
        }
    turned-pitch (Hertz f) (Hertz g) p q h = turned f g p.hertz-real q.hertz-real h
    turned-pitch (Note n t) (Hertz g) p q h = absurd h
    turned-pitch (Hertz f) (Note m u) p q h = absurd h
