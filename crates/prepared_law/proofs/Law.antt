-- The block of `PreparedSpectrum::new` is the four windows, each of the size's length, and then the
-- logarithms; so what stands after them is the prepared table, whose entries are all accepted.
-- Assumes nothing.
use mathlib.Core.Path.{◌≡◌, refl, sym, ap, ◌∙◌}
use mathlib.Core.Bool.{Bool, true, false, cond, not}
use mathlib.Core.List.{List, [], ◌++◌}
use Prim.Native.Nat.{ℕ, zero, suc, ◌+◌, ◌*◌, ◌/◌, ◌<◌}
use native.Mathlib.Nat.{le_refl}
use native.Mathlib.Omega.{arith}
use borrow.Author.Tests.{le-ltb, eq-eqb, ne_eqb}
use lib.Dec.{T, eqb, eqb→eq}
use lib.ListN.{length, get_or, drop, length-append}
use lib.Seq.{drop_at}
use lib.Ieee.{Float, nan, binary32, fits}
use lib.Ieee.Bits.{is_true}
use Rattle.lists.specs.Maps.{tabulate, length-tab}
use Rattle.lists.proofs.Folds.{bad-none}
use Rattle.float_laws.specs.Classes.{dual_at}
use Rattle.answer.specs.Reply.{Reply, done, refused}
use Rattle.answer.specs.Written.{written}
use Rattle.limits.specs.Limits as limits
use Rattle.frequencies.specs.Frequency.{prepared}
use Rattle.frequencies.proofs.Accepted.{table-accepted}
use Rattle.windows.specs.Windows.{dual_of}
use Rattle.prepared_spectrum.specs.Block.{logarithms, block_of}
use Rattle.refusals.specs.Masks.{entry_accepted, table_reply}
use Rattle.refusals.proofs.MaskAccepted.{Done, is-done}
use Rattle.list_calls.specs.Prepared.{prepare_reply}
use Rattle.processing_calls.specs.Processing.{prepared_reply}
use Rattle.prepared_law.specs.Calls.{NewCall, size_of, new_reply, block_after, table_in}
use Rattle.prepared_law.specs.Calls.{table_after, on_table}
use Rattle.prepared_law.specs.Law.{TableFor, BlockIsPrepared, PreparedLaw}

-- ---- a reply that is done passed its first test
past :
    (b : Bool) (number place : ℕ) (rest : Reply) → Done (cond (not b) (refused number place) rest)
    → T b × Done rest
past true number place rest d = (tt, d)
past false number place rest d = absurd d

-- ---- the part of a block after its four windows
four-windows :
    (n : ℕ) (a b c d e : List Float) → length a ≡ n → length b ≡ n → length c ≡ n → length d ≡ n
    → drop (4 * n) (a ++ b ++ c ++ d ++ e) ≡ e
four-windows n a b c d e la lb lc ld = drop_at (a ++ b ++ c ++ d) e (4 * n) front
  where
    front : length (a ++ b ++ c ++ d) ≡ 4 * n
    front =
        omega (arith, length-append (a ++ b ++ c) d, length-append (a ++ b) c, length-append a b)

dual-length : (w : List Float) (overlap : ℕ) → length (dual_of w overlap) ≡ length w
dual-length w overlap = length-tab (dual_at w (length w / overlap) overlap) 0 (length w)

module _ (new : NewCall) (f32 : T (fits binary32 new.rate))
    (gains : List Float) (is-new-done : new_reply new ≡ done gains) where
  abbrev size : ℕ
  size = size_of new

  record Passed : Type 0 where
    size-within : T (limits.size size)
    rate-within : T (limits.rate new.rate)
    same_length : size ≡ length new.smooth

  passed : Passed
  unfolding prepared_reply
  passed =
      let p = past (limits.size size) _ _ _ (is-done (new_reply new) is-new-done) in
      let q = past (limits.rate new.rate) _ _ _ p.1 in
      let r = past (eqb size (length new.smooth)) _ _ _ q.1 in
      record {
        size-within = p.0;
        rate-within = q.0;
        same_length = eqb→eq size (length new.smooth) r.0;
      }

  abbrev logs : List Float
  logs = logarithms new.rate size

  abbrev filled : List Float
  filled = block_of new.rate new.window new.smooth new.overlap

  block-is : block_after new ≡ filled
  block-is = ap (λ (a : Reply). written a filled new.block) is-new-done

  table_is : table_in new ≡ logs
  unfolding block_of
  table_is =
      let window = new.window in
      let smooth = new.smooth in
      let overlap = new.overlap in
      let same = passed.same_length in
      ap (drop (4 * size)) block-is
      ∙ four-windows size window (dual_of window overlap) smooth (dual_of smooth overlap) logs refl
      (dual-length window overlap) (sym same) (dual-length smooth overlap ∙ sym same)

  -- ---- what `prepare` leaves
  prepare-leaves :
      (table : List Float) → TableFor new table → table_after new.rate size table ≡ logs
  prepare-leaves table long =
      let entries = prepared new.rate size in
      let s = is_true (limits.size size) passed.size-within in
      let r = is_true (limits.rate new.rate) passed.rate-within in
      let l = eq-eqb (length table) (size / 2 + 1) long in
      let is-done-too : prepare_reply (length table) new.rate size ≡ done [] = simp (s, r, l) in
      ap (λ (a : Reply). written a (tabulate (length table) entries) table) is-done-too
      ∙ ap (λ (n : ℕ). tabulate n entries) long

  -- ---- no entry is refused
  long-enough : length logs ≡ size / 2 + 1
  long-enough = length-tab (prepared new.rate size) 0 (size / 2 + 1)

  entry : (k : ℕ) → k < length logs → T (entry_accepted k (get_or logs k nan))
  entry zero h = tt
  entry (suc k) h =
      rw (ne_eqb (suc k) 0 (λ z. omega arith))
      (table-accepted new.rate f32 size passed.rate-within passed.size-within (suc k)
      (omega arith) (omega (arith, long-enough)))

  none-refused : table_reply logs ≡ done []
  unfolding table_reply
  none-refused =
      let n = length logs in
      simp (bad-none nan entry_accepted logs entry, le-ltb n n (le_refl n))

  block-is-prepared : BlockIsPrepared new
  block-is-prepared =
      record {
        is-prepared = λ table long. table_is ∙ sym (prepare-leaves table long);
        not-refused = ap table_reply table_is ∙ none-refused;
        same-masks = λ call at table long.
            ap (λ (n : ℕ). on_table call (drop (4 * n) (block_after new))) at.size
            ∙ ap (on_table call) (table_is ∙ sym (prepare-leaves table long));
      }

pub prepared-law : PreparedLaw
prepared-law new f32 d = block-is-prepared new f32 d.0 d.1
