-- `read_scene` meets its contract: refusal 9, or what the tests answer on the record's fields.
-- Assumes nothing.
use Rattle.std.proofs.Common.{ℕ, drop, sym, ap, ◌∙◌, arith, true}
use lib.Dec.{T}
use mathlib.Core.Path.{subst}
use Rattle.limits.specs.Lengths.{record_head}
use Rattle.scene.specs.Gathered.{gathered_to}
use Rattle.scene.proofs.Gathered.{held_fits}
use Rattle.answer.specs.Reply.{Reply}
use Rattle.refusals.specs.Masks.{first, voices_reply}
use Rattle.record_heads.specs.Heads.{count_of}
use Rattle.record_voices.specs.Voices.{voices_of}
use Rattle.record_calls.proofs.Reading.{formed, read-refused, read-tested, scene-made}
use Rattle.record_calls.proofs.Reading.{scene-refused, scene-done, passed_on}
use Rattle.record_calls.proofs.read_scene.Goals as goal

pub returns-then-not-well_formed : goal.returns-then-not-well_formed
returns-then-not-well_formed c =
    let bs = c.args.«record».now in
    let e = read-refused bs (sym c.well_formed-2.ensures ∙ c.if-not-well_formed.true) in
    record { outcome_value = rw c.into.ensures (sym e); scene_value = scene-refused bs e }

pub head_at-requires : goal.head_at-requires
head_at-requires c =
    let bs = c.args.«record».now in
    let form = sym c.well_formed-2.ensures ∙ c.if-not-well_formed.false in
    omega (arith, (formed bs (subst T (sym form) tt)).whole)

pub settings_at-config-requires : goal.settings_at-config-requires
settings_at-config-requires c =
    let bs = c.args.«record».now in
    let form = sym c.well_formed-2.ensures ∙ c.if-not-well_formed.false in
    omega (arith, (formed bs (subst T (sym form) tt)).whole)

pub voices_at-voices-requires : goal.voices_at-voices-requires
voices_at-voices-requires c =
    let bs = c.args.«record».now in
    let form = sym c.well_formed-2.ensures ∙ c.if-not-well_formed.false in
    let whole = (formed bs (subst T (sym form) tt)).whole in
    let count = c.count_of-count.ensures.0 ∙ ap count_of c.head_at.ensures.0 in
    let fits = held_fits c.count_of-count.result in
    record {
      count_bound = omega (arith, fits.1, c.held.ensures);
      count_in_bounds = omega (arith, fits.0, c.held.ensures, count, whole);
    }

pub returns-in_err-of_settings : goal.returns-in_err-of_settings
returns-in_err-of_settings c =
    let bs = c.args.«record».now in
    let form = sym c.well_formed-2.ensures ∙ c.if-not-well_formed.false in
    let count = c.count_of-count.ensures.0 ∙ ap count_of c.head_at.ensures.0 in
    let array =
    c.voices_at-voices.ensures
    ∙ ap (λ (k : ℕ). gathered_to k (voices_of (drop record_head bs) k)) c.held.ensures in
    let heard = voices_reply c.voices_at-voices.result c.count_of-count.result true in
    let e =
    ap (λ (r : Reply). first r heard) c.in_err-of_settings.ensures
    ∙ sym (read-tested bs _ _ _ c.settings_at-config.ensures count array form) in
    let passed = passed_on _ _ c.from_residual.ensures.1 in
    record {
      outcome_value = passed.0 ∙ e;
      scene_value = passed.1 ∙ scene-refused bs (sym e);
    }

pub returns-in_err-of_voices : goal.returns-in_err-of_voices
returns-in_err-of_voices c =
    let bs = c.args.«record».now in
    let form = sym c.well_formed-2.ensures ∙ c.if-not-well_formed.false in
    let count = c.count_of-count.ensures.0 ∙ ap count_of c.head_at.ensures.0 in
    let array =
    c.voices_at-voices.ensures
    ∙ ap (λ (k : ℕ). gathered_to k (voices_of (drop record_head bs) k)) c.held.ensures in
    let heard = voices_reply c.voices_at-voices.result c.count_of-count.result true in
    let e =
    c.in_err-of_voices.ensures
    ∙ ap (λ (r : Reply). first r heard) c.in_ok-of_settings.ensures
    ∙ sym (read-tested bs _ _ _ c.settings_at-config.ensures count array form) in
    let passed = passed_on _ _ c.from_residual-in_err-of_voices.ensures.1 in
    record {
      outcome_value = passed.0 ∙ e;
      scene_value = passed.1 ∙ scene-refused bs (sym e);
    }

pub returns : goal.returns
returns c =
    let bs = c.args.«record».now in
    let form = sym c.well_formed-2.ensures ∙ c.if-not-well_formed.false in
    let count = c.count_of-count.ensures.0 ∙ ap count_of c.head_at.ensures.0 in
    let array =
    c.voices_at-voices.ensures
    ∙ ap (λ (k : ℕ). gathered_to k (voices_of (drop record_head bs) k)) c.held.ensures in
    let same = c.settings_at-config.ensures in
    let heard = voices_reply c.voices_at-voices.result c.count_of-count.result true in
    let e =
    c.in_ok-of_voices.ensures
    ∙ ap (λ (r : Reply). first r heard) c.in_ok-of_settings.ensures
    ∙ sym (read-tested bs _ _ _ same count array form) in
    record {
      outcome_value = e;
      scene_value = scene-made bs _ _ _ same count array ∙ scene-done bs (sym e);
    }
