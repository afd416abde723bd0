-- The invariant of `line::quick::digits` is what `Run` says after so many turns.
-- Assumes nothing.
use Rattle.line.proofs.Runs.{Run}
use Rattle.line.proofs.quick.digits.Given as goal

abbrev pub invariant-loop-byte : goal.invariant-loop-byte
invariant-loop-byte l = Run l.fn.rest l.value l.size l.all l.on l.byte-index
