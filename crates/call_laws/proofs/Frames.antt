-- Whole runs of `advance_note_envelopes`: for every list of calls, refused ones among them, each on
-- the bank that the one before handed back, levels that start in 0..1 stay there, no call refuses a
-- level, and no call moves a level away from its target. Assumes nothing.
use mathlib.Core.Path.{◌≡◌}
use mathlib.Core.Bool.{Bool, true, false, not, cond}
use mathlib.Core.List.{List, []}
use mathlib.Core.Logic.{inl}
use Prim.Native.Nat.{ℕ, ◌<◌}
use native.Mathlib.Nat.{le_refl}
use borrow.Author.Tests.{le-ltb}
use lib.Dec.{T, ltb}
use lib.ListN.{length, get_or}
use lib.Ieee.{Float, nan, binary32, fits}
use lib.Ieee.Bits.{is_true}
use Rattle.float_laws.specs.Units.{real-number}
use Rattle.float_laws.specs.Order.{le-refl-f}
use Rattle.lists.specs.Folds.{fold, fold-keeps, first_bad}
use Rattle.lists.proofs.Folds.{bad-none}
use Rattle.float32.proofs.InUnit.{InUnit, unit-within}
use Rattle.answer.specs.Refusal.{SETTING, LIST_VALUE}
use Rattle.answer.specs.Reply.{done, refused}
use Rattle.answer.specs.Written.{written}
use Rattle.limits.specs.Limits as limits
use Rattle.envelopes.specs.Envelope.{is_held, fade_alpha, advanced}
use Rattle.envelopes.proofs.Alpha.{accepted-alpha-unit}
use Rattle.envelopes.proofs.Bank.{Levels, Toward, levels-stay, none-moves-away}
use Rattle.list_calls.specs.Advanced.{advance_reply, advance_of}

-- what a call is given beside the bank; its numbers are f32 values
pub record Frame : Type 0 where
  pub held : List ℕ
  pub elapsed : Float
  pub fade : Float
  pub elapsed-fits : T (fits binary32 elapsed)
  pub fade-fits : T (fits binary32 fade)

-- the bank that a call hands back
abbrev pub after : List Float → Frame → List Float
after bank frame = (advance_of bank frame.held frame.elapsed frame.fade).bank

abbrev pub run : List Float → List Frame → List Float
run bank frames = fold after bank frames

-- ---- a call refuses and changes nothing, or its numbers are within their limits and it advances
-- the bank
by_cases : (P : List Float → Type 0) (bank : List Float) (frame : Frame) → P bank
    → (T (limits.elapsed frame.elapsed) → T (limits.fade frame.fade)
    → P (advanced frame.held frame.elapsed frame.fade bank)) → P (after bank frame)
by_cases P bank frame same next =
    go (limits.elapsed frame.elapsed) (limits.fade frame.fade) (ltb note (length bank)) next
  where
    note : ℕ
    note = first_bad (λ n level. limits.level level) bank

    go :
        (a b c : Bool)
        → (T a → T b → P (advanced frame.held frame.elapsed frame.fade bank))
        → P (written (cond (not a) (refused SETTING 0)
        (cond (not b) (refused SETTING 0) (cond c (refused LIST_VALUE note) (done []))))
        (advanced frame.held frame.elapsed frame.fade bank) bank)
    go false b c next = same
    go true false c next = same
    go true true true next = same
    go true true false next = next tt tt

alpha-unit :
    (frame : Frame) → T (limits.elapsed frame.elapsed) → T (limits.fade frame.fade)
    → InUnit (fade_alpha frame.elapsed frame.fade)
alpha-unit frame s t =
    accepted-alpha-unit frame.elapsed frame.fade frame.elapsed-fits frame.fade-fits s t

-- ---- one call
levels-stay-once : (bank : List Float) (frame : Frame) → Levels bank → Levels (after bank frame)
levels-stay-once bank frame l =
    by_cases Levels bank frame l
    (λ s t. levels-stay bank frame.held frame.elapsed frame.fade (alpha-unit frame s t) l)

stands : (held : Bool) (level : Float) → InUnit level → Toward held level level
stands false level u = le-refl-f binary32 level (real-number binary32 level u.finite)
stands true level u = inl (le-refl-f binary32 level (real-number binary32 level u.finite))

pub no-level-moves-away :
    (bank : List Float) (frame : Frame) → Levels bank → (note : ℕ) → note < length bank
    → Toward (is_held frame.held note) (get_or bank note nan) (get_or (after bank frame) note nan)
no-level-moves-away bank frame l note h =
    by_cases (λ b. Toward (is_held frame.held note) (get_or bank note nan) (get_or b note nan))
    bank frame (stands (is_held frame.held note) (get_or bank note nan) (l note h))
    (λ s t. none-moves-away bank frame.held frame.elapsed frame.fade (alpha-unit frame s t)
    l note h)

-- ---- every list of calls
pub levels-stay-in-range :
    (bank : List Float) (frames : List Frame) → Levels bank → Levels (run bank frames)
levels-stay-in-range bank frames l = fold-keeps Levels after levels-stay-once bank frames l

-- and then a call with numbers within their limits is done
pub never-refused :
    (bank : List Float) (frames : List Frame) → Levels bank → (elapsed fade : Float)
    → T (limits.elapsed elapsed) → T (limits.fade fade)
    → advance_reply (run bank frames) elapsed fade ≡ done []
never-refused bank frames l elapsed fade s t =
    let b = run bank frames in
    let k = levels-stay-in-range bank frames l in
    simp (
      is_true (limits.elapsed elapsed) s,
      is_true (limits.fade fade) t,
      bad-none nan (λ n level. limits.level level) b (λ n h. unit-within (get_or b n nan) (k n h)),
      le-ltb (length b) (length b) (le_refl (length b)),
    )
