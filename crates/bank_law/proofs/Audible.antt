-- The order of arrival is not audible: voices that are the same match one another as the chord law
-- asks, both ways round, and so the two masks are equal. Assumes nothing.
use mathlib.Core.Path.{◌≡◌, refl, sym, ap, ◌∙◌}
use mathlib.Core.List.{List, [], ◌∷◌, ◌++◌}
use Prim.Native.Nat.{ℕ, ◌≤◌, ◌<◌}
use lib.Dec.{T}
use lib.ListN.{length, get_or}
use lib.Ieee.{Float, nan, binary32, eq}
use Rattle.lists.specs.Totals.{All, all-at, all_append, all_set}
use Rattle.lists.specs.Mapped.{map-append}
use Rattle.lists.specs.Closing.{all_without}
use Rattle.float_laws.specs.Units.{real, real-number}
use Rattle.float_laws.specs.Order.{eq-refl-f}
use Rattle.answer.specs.Reply.{Reply, done, refused}
use Rattle.answer.specs.Written.{written}
use Rattle.limits.specs.Lengths.{most_voices}
use Rattle.scene.specs.declared.MaskVoice.{MaskVoice}
use Rattle.scene.specs.declared.MaskConfig.{MaskConfig}
use Rattle.scene.specs.Accepted.{voice_accepted, no_voice}
use Rattle.scene.specs.Voices.{RealVoice}
use Rattle.scene.specs.F32.{F32Voice, F32Voices, F32Settings, F32List}
use Rattle.scene.proofs.Voices.{accepted-real}
use Rattle.scene.proofs.SettingsNumbers as numbers
use Rattle.voice_bank.specs.declared.Bank.{Bank}
use Rattle.voice_bank.specs.Banks.{empty, place_in}
use Rattle.lobes.specs.Pan.{left, right}
use Rattle.mask_calls.specs.LentStereo.{lent_reply, lent_mask}
use Rattle.chord_law.specs.Calls as chord
use Rattle.chord_law.specs.Voices.{MatchedIn}
use Rattle.chord_law.specs.Masks.{EqualMasks, MasksEqual}
use Rattle.chord_law.specs.Settings.{SameSettings, SameEntries}
use Rattle.chord_law.proofs.Acceptance.{size-accepted, settings-accepted, curve-length}
use Rattle.chord_law.proofs.Acceptance.{entry-number}
use Rattle.chord_law.proofs.SameVoices.{same-matched}
use Rattle.chord_law.proofs.CurvePoints.{level-curve}
use Rattle.chord_law.proofs.AcceptedVoices.{reply-without-voices}
use Rattle.chord_law.proofs.LentCalls.{lent-chord-law}
use Rattle.bank_law.specs.Calls.{Reading, Call, add, remove, change, read}
use Rattle.bank_law.specs.Present.{Entry, entry, voices, taken_out, changed, reply_by}
use Rattle.bank_law.specs.Present.{entered, present_from, present}
use Rattle.bank_law.specs.Banks.{answer_of, run}
use Rattle.bank_law.specs.Promises.{Holds, AllAmong, SameVoices}
use Rattle.bank_law.specs.Promises.{OneReading, SameSound, F32Call, F32Reading}
use Rattle.bank_law.specs.Promises.{NotAudible, OrderNotAudible}
use Rattle.bank_law.proofs.Entries.{ids, taken_out_lem, changed-at}
use Rattle.bank_law.proofs.Reading.{lent_answer, read_answer}
use Rattle.bank_law.proofs.Runs.{holds-the-present}

same-itself : (x : Float) → T (real binary32 x) → T (eq x x)
same-itself x p = eq-refl-f binary32 x (real-number binary32 x p)

-- ---- voices that the stereo call hears: at most 128, each accepted
pub record Heard (voices : List MaskVoice) : Type 0 where
  pub few : length voices ≤ most_voices
  pub within : All (λ v. T (voice_accepted v)) voices
  pub f32 : F32Voices voices

real-at :
    (xs : List MaskVoice) → Heard xs → (i : ℕ) → i < length xs → RealVoice (get_or xs i no_voice)
real-at xs h i l =
    accepted-real (get_or xs i no_voice)
    (all-at (λ v. T (voice_accepted v)) xs i no_voice h.within l) (h.f32 i l)

all-matched :
    (xs ys : List MaskVoice) → Heard xs → Heard ys → AllAmong xs ys → MatchedIn xs ys
all-matched xs ys hx hy s i l =
    let v = s i l in
    record {
      place = v.place;
      there = v.there;
      matches =
          same-matched (get_or xs i no_voice) (get_or ys v.place no_voice) (real-at xs hx i l)
          (real-at ys hy v.place v.there) v.same;
    }

-- ---- one reading of two lists
module _ (m n : ℕ) (curve : List Float) (config : MaskConfig) (table : List Float) where
  -- what is answered is no matter of the voices
  same-reply :
      (xs ys : List MaskVoice) → Heard xs → Heard ys
      → lent_reply m n curve xs config table ≡ lent_reply m n curve ys config table
  same-reply xs ys hx hy =
      reply-without-voices xs hx.few hx.within m n curve config table
      ∙ sym (reply-without-voices ys hy.few hy.within m n curve config table)

  abbrev lent_call : List MaskVoice → chord.LentCall
  lent_call voices =
      record {
        left-length = m;
        right-length = n;
        curve = curve;
        records = voices;
        config = config;
        table = table;
      }

  module _ (c : F32List curve) (s : F32Settings config) (t : F32List table) where
    f32-given : (xs : List MaskVoice) → Heard xs → chord.F32LentCall (lent_call xs)
    f32-given xs h =
        record { curve-f32 = c; voices-f32 = h.f32; settings-f32 = s; table-f32 = t }

    module _ (xs : List MaskVoice) (h : Heard xs)
        (done-so : lent_reply m n curve xs config table ≡ done []) where
      abbrev call : chord.Call
      call = chord.call_of m n curve xs (length xs) config table

      same-settings : SameSettings config config
      same-settings =
          let p = size-accepted call done-so in
          let q = settings-accepted call done-so in
          record {
            rate = eq-refl-f binary32 _ (numbers.rate-number config p q s);
            size = refl;
            note-depth = eq-refl-f binary32 _ (numbers.note-depth-number config p q s);
            note-layer = refl;
            width = eq-refl-f binary32 _ (numbers.width-number config p q s);
            partials = refl;
            rolloff =
                same-itself config.harmonic_rolloff_db_per_octave
                (numbers.rolloff-real config p q s);
            motion =
                record {
                  shape = refl;
                  depth =
                      same-itself config.motion.depth_db
                      (numbers.motion-depth-real config p q s);
                  phase = eq-refl-f binary32 _ (numbers.phase-number config p q s);
                  size = eq-refl-f binary32 _ (numbers.motion-size-number config p q s);
                };
          }

      same_entries : SameEntries table table
      same_entries i l k =
          eq-refl-f binary32 (get_or table i nan)
          (entry-number call done-so (f32-given xs h) i l k)

    pub equal-masks :
        (xs ys : List MaskVoice) → Heard xs → Heard ys → SameVoices xs ys
        → lent_reply m n curve xs config table ≡ done []
        → MasksEqual (chord.whole_lent (lent_call xs)) (chord.whole_lent (lent_call ys))
    equal-masks xs ys hx hy same done-so =
        let level = level-curve curve (curve-length (call xs hx done-so) done-so) c in
        (lent-chord-law (lent_call xs) (lent_call ys) (f32-given xs hx) (f32-given ys hy)
        (record {
          a-accepted = done-so;
          b-accepted = sym (same-reply xs ys hx hy) ∙ done-so;
          settings = same-settings xs hx done-so;
          table = same_entries xs hx done-so;
        })
        (record { matched = all-matched xs ys hx hy same.0; curve = level })
        ).1
        (all-matched ys xs hy hx same.1) (level, level)

-- ---- two readings of two lists
filled :
    {reply : Reply} (new old : List Float) → reply ≡ done [] → written reply new old ≡ new
filled new old e = ap (λ (r : Reply). written r new old) e

pub sounds :
    (xs ys : List MaskVoice) → Heard xs → Heard ys → (a b : Reading) → F32Reading a
    → SameVoices xs ys → OneReading a b
    → SameSound (lent_answer xs a) (lent_answer ys b)
sounds xs ys hx hy a b f same one =
    record {
      reply = replies;
      left-masks = λ e. masks a.left b.left e (equal e).0;
      right-masks = λ e. masks a.right b.right e (equal e).1;
    }
  where
    replies : (lent_answer xs a).reply ≡ (lent_answer ys b).reply
    replies =
        same-reply (length a.left) (length a.right) a.curve a.config a.table xs ys hx
        hy
        ∙ rw (one.left-length, one.right-length, one.curve, one.config, one.table) refl

    equal :
        (lent_answer xs a).reply ≡ done []
        → EqualMasks (lent_mask left a.curve xs a.config a.table)
        (lent_mask left b.curve ys b.config b.table)
        × EqualMasks (lent_mask right a.curve xs a.config a.table)
        (lent_mask right b.curve ys b.config b.table)
    equal e =
        rw (sym one.curve, sym one.config, sym one.table)
        (equal-masks (length a.left) (length a.right) a.curve a.config a.table
        f.curve-f32 f.settings-f32 f.table-f32 xs ys hx hy same e)

    masks :
        {x y : List Float} (old old' : List Float) → (lent_answer xs a).reply ≡ done []
        → EqualMasks x y
        → EqualMasks (written (lent_answer xs a).reply x old)
        (written (lent_answer ys b).reply y old')
    masks {x} {y} old old' e h =
        rw (filled x old e, filled y old' (sym replies ∙ e)) h

-- ---- the numbers of the voices present are f32
either :
    (P : List Entry → Type 0) (reply : Reply) (new old : List Entry) → P new → P old
    → P (written reply new old)
either P (done values) new old p q = p
either P (refused number place) new old p q = q

abbrev F32Entries : List Entry → Type 0
F32Entries es = All F32Voice (voices es)

f32-step :
    (es : List Entry) (call : Call) → F32Call call → F32Entries es
    → F32Entries (entered es call)
f32-step es (add id v) f h =
    either F32Entries (reply_by es (add id v)) (es ++ entry id v ∷ []) es
    (rw (map-append (λ (e : Entry). e.voice) es (entry id v ∷ []))
    (all_append F32Voice (voices es) (v ∷ []) h (f, tt))) h
f32-step es (remove id) f h =
    either F32Entries (reply_by es (remove id)) (taken_out id es) es
    (rw (taken_out_lem id es).of-voices (all_without F32Voice (place_in id (ids es)) (voices es) h)) h
f32-step es (change id v) f h =
    either F32Entries (reply_by es (change id v)) (changed id v es) es
    (rw (changed-at id v es).of-voices
    (all_set F32Voice (voices es) (place_in id (ids es)) v h f)) h
f32-step es (read reading) f h = h

f32-run :
    (es : List Entry) (calls : List Call) → All F32Call calls → F32Entries es
    → F32Entries (present_from es calls)
unfolding present_from
f32-run es [] f h = h
f32-run es (call ∷ calls) f h =
    f32-run (entered es call) calls f.1 (f32-step es call f.0 h)

-- ---- two lists of calls
hears :
    {bank : Bank} {voices : List MaskVoice} → Holds bank voices → F32Voices voices → Heard voices
hears h f = record { few = h.room; within = h.within; f32 = f }

pub reads-sound :
    (a-calls b-calls : List Call) → F32Voices (present a-calls) → F32Voices (present b-calls)
    → (a b : Reading) → F32Reading a
    → NotAudible a-calls b-calls a b (answer_of (run empty a-calls) (read a))
    (answer_of (run empty b-calls) (read b))
reads-sound a-calls b-calls fa fb a b f same one =
    let p = holds-the-present a-calls in
    let q = holds-the-present b-calls in
    rw (
      read_answer (run empty a-calls) (present a-calls) a p,
      read_answer (run empty b-calls) (present b-calls) b q,
    )
    (sounds (present a-calls) (present b-calls) (hears p fa) (hears q fb) a b f same one)

pub order-not-audible : OrderNotAudible
order-not-audible a-calls b-calls fa fb a b f =
    reads-sound a-calls b-calls
    (λ i l. all-at F32Voice (present a-calls) i no_voice (f32-run [] a-calls fa tt) l)
    (λ i l. all-at F32Voice (present b-calls) i no_voice (f32-run [] b-calls fb tt) l) a b f
