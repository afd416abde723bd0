-- After n turns the lines of the first n seats stand, each in at most 17 bytes.
-- Assumes nothing.
use Rattle.std.proofs.Common.{◌+◌, ◌*◌, ◌≤◌}
use Rattle.text.specs.Page.{Wrote}
use Rattle.desk.specs.Desk.{seat_line_most, seat_lines}
use Rattle.desk.proofs.put_seats.Given as goal

abbrev pub invariant-loop-n : goal.invariant-loop-n
invariant-loop-n l =
    record { text : Wrote l.initial.page (seat_lines l.book l.n) l.page; most : l.page.size ≤ l.initial.page.size + seat_line_most * l.n }
