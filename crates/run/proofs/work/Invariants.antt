-- After i turns the book and the area are those after the first i events.
-- Assumes nothing.
use Rattle.std.proofs.Common.{◌≡◌}
use Rattle.records.specs.Records.{first_events}
use Rattle.run.specs.Run.{after, filled}
use Rattle.run.proofs.work.Given as goal

abbrev pub invariant-loop-i : goal.invariant-loop-i
invariant-loop-i l = record {
  book : l.book ≡ after l.fn.book (first_events l.events l.i);
  area : l.area ≡ filled l.fn.book l.events l.fn.area l.i;
}
