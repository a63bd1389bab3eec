-- `pitch_byte` meets its contract. Assumes nothing.
use native.Mathlib.Omega.{arith}
use Rattle.record_voices.proofs.Voices.{form-below}
use Rattle.record_voices.proofs.pitch_byte.Goals as goal

pub overflow_add-result : goal.overflow_add-result
overflow_add-result c =
    let p = c.args.pitch in
    let form = form-below p in
    record { fits = omega (arith, form, c.form_of.ensures) }
