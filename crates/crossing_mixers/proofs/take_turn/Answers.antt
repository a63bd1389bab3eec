-- `take_turn` meets its contract. Assumes nothing.
use Rattle.crossing_mixers.proofs.take_turn.Goals as goal

pub returns : goal.returns
returns c =
    let turned = c.turn-named.ensures in
    simp (c.is_some.ensures, c.strip_of.ensures, turned.named_value, turned.mixer_value)
