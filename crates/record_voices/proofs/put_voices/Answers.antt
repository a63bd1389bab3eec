-- `put_voices` meets its contract: the voices passed stand one after the other. Assumes nothing.
use mathlib.Core.Path.{◌≡◌, refl, ap, ◌∙◌}
use Prim.Native.Nat.{ℕ}
use native.Mathlib.Omega.{arith}
use lib.ListN.{length, take}
use borrow.Author.Rules.{rules}
use Rattle.lists.specs.Stores.{stored, stored-length, stored-none}
use Rattle.lists.specs.Pieces.{pieces, pieces_more}
use Rattle.scene.specs.Accepted.{no_voice}
use Rattle.record_voices.specs.Voices.{voice_bytes, voices_bytes}
use Rattle.record_voices.proofs.Voices.{voice-length}
use Rattle.record_voices.proofs.Steps.{note-fits}
use Rattle.record_voices.proofs.put_voices.Goals as goal

pub loop-i-init : goal.loop-i-init
unfolding pieces
loop-i-init c = (refl, stored-none _ _)

pub overflow_mul-i : goal.overflow_mul-i
overflow_mul-i c = omega arith

pub overflow_add-at : goal.overflow_add-at
overflow_add-at c = omega arith

pub offset_bounds-voices-i : goal.offset_bounds-voices-i
offset_bounds-voices-i c = omega arith

pub bounds-voices-i : goal.bounds-voices-i
bounds-voices-i c = omega arith

pub put_voice-requires : goal.put_voice-requires
put_voice-requires c =
    let a = c.args in
    let l : length a.voices ≡ 128 = search rules in record { at_in_bounds = omega arith; note_fits = note-fits a.voices a.count c.loop-i.i (omega arith) (omega arith) c.requires.all }

pub loop-i-preserved : goal.loop-i-preserved
loop-i-preserved c =
    let a = c.args in
    let l : length a.voices ≡ 128 = search rules in
    let e = c.put_voice.ensures in (
      ap length e ∙ stored-length _ _ _ ∙ c.loop-i.invariant.0,
      e
          ∙ pieces_more voice_bytes 29 voice-length no_voice a.«record».now
          c.loop-i.«record» a.at c.loop-i.i a.voices (omega arith) c.loop-i.invariant.1,
    )

pub shape_of-record : goal.shape_of-record
shape_of-record c = c.loop-i.invariant.0

pub returns : goal.returns
returns c =
    let a = c.args in
    let z : c.loop-i.i ≡ a.count = omega arith in
    c.loop-i.invariant.1
    ∙ ap (λ (n : ℕ). stored a.«record».now a.at (voices_bytes (take n a.voices))) z
