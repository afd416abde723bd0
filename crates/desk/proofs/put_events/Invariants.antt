-- After i turns the lines of the first i events stand, each in at most 48 bytes.
-- Assumes nothing.
use Rattle.std.proofs.Common.{◌+◌, ◌*◌, ◌≤◌}
use Rattle.records.specs.Records.{first_events}
use Rattle.demands.specs.Groups.{first_answers}
use Rattle.text.specs.Page.{Wrote}
use Rattle.desk.specs.Desk.{event_line_most, event_lines}
use Rattle.desk.proofs.put_events.Given as goal

abbrev pub invariant-loop-i : goal.invariant-loop-i
invariant-loop-i l = record {
  text : Wrote l.initial.page (event_lines 1 (first_events l.events l.i) (first_answers l.i l.answers)) l.page;
  most : l.page.size ≤ l.initial.page.size + event_line_most * l.i;
}
