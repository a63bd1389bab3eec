-- What a lent slice holds when a call returns: "A refused call leaves every lent slice unchanged."
-- Assumes nothing.
use Rattle.answer.specs.Reply.{Reply, done, refused}

-- the new contents where the call is done, the old ones where it is refused
abbrev pub written : {A : Type 0} → Reply → A → A → A
written (done values) new old = new
written (refused number place) new old = old
