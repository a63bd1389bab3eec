-- A mixer fits what is known of the waits: its line is that of the entries, each strip is below 16
-- and in the line once, each wait began after those before it, and the wait of each strip is the
-- one that its entry says. A fresh mixer fits, each call keeps it so, and so do all calls of a
-- list, by recursion over it. Assumes nothing.
use mathlib.Core.Path.{◌≡◌, refl, sym, ap, ◌∙◌}
use mathlib.Core.Bool.{Bool, true, false}
use mathlib.Core.List.{List, [], ◌∷◌, ◌++◌}
use Prim.Native.Nat.{ℕ, ◌+◌, ◌<◌}
use native.Mathlib.Omega.{arith}
use lib.Dec.{leb}
use lib.ListN.{length, drop}
use borrow.Author.Tests.{leb-true, leb-false, lt-leb}
use Rattle.lists.specs.Totals.{All, all_append, all_drop}
use Rattle.lists.specs.Mapped.{map-append}
use Rattle.mixer.specs.declared.Mixer.{Mixer}
use Rattle.mixer.specs.Mixers.{strip_count, fresh, line, has, first_waiting, mixer_asked, mixer_turned}
use Rattle.mixer_law.specs.Calls.{Call, request, turn}
use Rattle.mixer_law.specs.Waits.{Wait, none, wait_after, wait_from, wait_of, asked}
use Rattle.mixer_law.specs.Mixers.{event_of, stepped, run, events_from, told, after, events}
use Rattle.mixer_law.proofs.Counting.{times, Once, once_last, once-drop, once-first, room}
use Rattle.mixer_law.proofs.Lines.{Whole, joined, line-asked, line-turned}
use Rattle.mixer_law.proofs.Lines.{whole-asked, whole-turned}
use Rattle.mixer_law.proofs.Entries.{Entry, entry, strips, strips-drop, Rising, Past}
use Rattle.mixer_law.proofs.Entries.{rising-last, rising-drop, past-later, look}
use Rattle.mixer_law.proofs.Entries.{asked-again, asked-first, asked-above, named-first}

-- before call number `now`, where the strips' waits are these
pub record Fit (now : ℕ) (waits : ℕ → Wait) (mixer : Mixer) : Type 0 where
  pub entries : List Entry
  pub whole : Whole mixer
  pub line-is : line mixer ≡ strips entries
  pub low : All (λ strip. strip < strip_count) (strips entries)
  pub once : Once (strips entries)
  pub rising : Rising entries
  pub past : Past now entries
  pub known : (strip : ℕ) → strip < strip_count → waits strip ≡ look strip entries

fit-fresh : Fit 0 (λ strip. none) fresh
unfolding Rising times look
fit-fresh =
    record {
      entries = [];
      whole = refl;
      line-is = refl;
      low = tt;
      once = λ v. omega arith;
      rising = tt;
      past = tt;
      known = λ strip l. refl;
    }

module _ (now : ℕ) (waits : ℕ → Wait) (mixer : Mixer) (f : Fit now waits mixer) where
  abbrev es : List Entry
  es = f.entries

  abbrev next : Call → ℕ → Wait
  next call strip = wait_after strip now (waits strip) (event_of mixer call)

  -- ---- a request
  moved : (strip : ℕ) → line (mixer_asked mixer strip) ≡ joined (strips es) strip
  moved strip =
      line-asked mixer f.whole strip ∙ ap (λ l. joined l strip) f.line-is

  -- that changes nothing
  fit-kept :
      (strip : ℕ) → line (mixer_asked mixer strip) ≡ strips es
      → ((s : ℕ) → s < strip_count → wait_after s now (look s es) (asked strip) ≡ look s es)
      → Fit (now + 1) (next (request strip)) (mixer_asked mixer strip)
  fit-kept strip e k =
      record {
        entries = es;
        whole = whole-asked mixer f.whole strip;
        line-is = e;
        low = f.low;
        once = f.once;
        rising = f.rising;
        past = past-later now es f.past;
        known = λ s l. rw (f.known s l) (k s l);
      }

  -- that begins a wait
  fit-begun :
      (strip : ℕ) → strip < strip_count → has strip (strips es) ≡ false
      → Fit (now + 1) (next (request strip)) (mixer_asked mixer strip)
  fit-begun strip l h =
      let e = entry strip now in
      let last = map-append (λ (f : Entry). f.strip) es (e ∷ []) in
      let short = room strip_count (strips es) strip f.low f.once l h in
      record {
        entries = es ++ e ∷ [];
        whole = whole-asked mixer f.whole strip;
        line-is =
            moved strip
            ∙ rw (lt-leb strip_count strip l, h, lt-leb strip_count (length (strips es)) short) (sym last);
        low =
            rw last
            (all_append (λ s. s < strip_count) (strips es) (strip ∷ []) f.low (l, tt));
        once = rw last (once_last (strips es) strip f.once h);
        rising = rising-last es strip now f.rising f.past;
        past =
            all_append (λ f. f.began < now + 1) es (e ∷ []) (past-later now es f.past)
            (omega arith, tt);
        known = λ s l. rw (f.known s l) (asked-first now s strip es h);
      }

  fit-asked : (strip : ℕ) → Fit (now + 1) (next (request strip)) (mixer_asked mixer strip)
  fit-asked strip = go (leb strip_count strip) refl (has strip (strips es)) refl
    where
      go :
          (above : Bool) → leb strip_count strip ≡ above
          → (there : Bool) → has strip (strips es) ≡ there
          → Fit (now + 1) (next (request strip)) (mixer_asked mixer strip)
      go true p there q =
          fit-kept strip (moved strip ∙ rw p)
          (λ s l. asked-above now s strip (look s es) l (leb-true strip_count strip p))
      go false p true q =
          fit-kept strip (moved strip ∙ rw (p, q)) (λ s l. asked-again now s strip es q)
      go false p false q = fit-begun strip (leb-false strip_count strip p) q

  -- ---- a turn
  fit-turned : Fit (now + 1) (next turn) (mixer_turned mixer)
  fit-turned =
      let fewer = strips-drop es in
      record {
        entries = drop 1 es;
        whole = whole-turned mixer f.whole;
        line-is =
            line-turned mixer f.whole ∙ ap (drop 1) f.line-is ∙ sym fewer;
        low = rw fewer (all_drop (λ s. s < strip_count) 1 (strips es) f.low);
        once = rw fewer (once-drop (strips es) f.once);
        rising = rising-drop es f.rising;
        past = all_drop (λ f. f.began < now + 1) 1 es (past-later now es f.past);
        known = λ s l. rw (f.known s l, f.line-is) (taken s es f.once);
      }
    where
      taken :
          (s : ℕ) (es : List Entry) → Once (strips es)
          → wait_after s now (look s es) (told (first_waiting (strips es))) ≡ look s (drop 1 es)
      taken s [] o = refl
      taken s (e ∷ es) o = named-first now s e es (once-first e.strip (strips es) o)

  pub fit-step : (call : Call) → Fit (now + 1) (next call) (stepped mixer call)
  fit-step (request strip) = fit-asked strip
  fit-step turn = fit-turned

-- ---- every list of calls
fit-run :
    (now : ℕ) (waits : ℕ → Wait) (mixer : Mixer) (calls : List Call) → Fit now waits mixer
    → (then : ℕ)
    × Fit then (λ strip. wait_from strip now (waits strip) (events_from mixer calls))
    (run mixer calls)
unfolding run events_from wait_from
fit-run now waits mixer [] f = (now, f)
fit-run now waits mixer (call ∷ calls) f =
    fit-run (now + 1) (λ strip. wait_after strip now (waits strip) (event_of mixer call))
    (stepped mixer call) calls (fit-step now waits mixer f call)

-- from a fresh mixer
pub record Fits (calls : List Call) : Type 0 where
  pub then : ℕ
  pub fit : Fit then (λ strip. wait_of strip (events calls)) (after calls)

pub fits : (calls : List Call) → Fits calls
fits calls =
    let r = fit-run 0 (λ strip. none) fresh calls fit-fresh in
    record { then = r.0; fit = r.1 }
