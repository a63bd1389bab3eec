-- `replay::replay` returns: what follows a record is shorter, and the next one may be printed too.
-- Assumes nothing.
use Rattle.std.proofs.Common.{length}
use denote.Param.Always.{always_mut}
use Rattle.replay.proofs.replay.Given as goal

abbrev pub invariant-loop-rest : goal.invariant-loop-rest
invariant-loop-rest g l =
    always_mut g.F.FnMut l.initial.print_record → always_mut g.F.FnMut l.print_record

abbrev pub decreases-loop-rest : goal.decreases-loop-rest
decreases-loop-rest g l = length l.rest
