-- The invariant of `line::digits`: the whole says what `value` and the bytes that are left say.
-- Assumes nothing.
use Rattle.std.proofs.Common.{◌≡◌, ◌≤◌, drop}
use Rattle.line.specs.Seats.{digits_in}
use Rattle.line.proofs.digits.Given as goal

abbrev pub invariant-loop-size : goal.invariant-loop-size
invariant-loop-size l = (l.value ≤ 65535) × (digits_in 0 0 l.body ≡ digits_in l.value l.size (drop l.size l.body))
