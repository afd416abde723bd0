-- The invariant of `journal::read_lines`: what is kept is right for the lines read so far (`Kept`), and there was room. The measure is what is
-- left of the text.
-- Assumes nothing.
use Rattle.std.proofs.Common.{◌+◌, ◌*◌, ◌≤◌, length}
use Rattle.journal.proofs.Keeping.{Kept}
use Rattle.journal.proofs.read_lines.Given as goal

abbrev pub invariant-loop-rest : goal.invariant-loop-rest
invariant-loop-rest l =
    record {
      each_a_byte : l.n + length l.rest ≤ length l.text;
      in_run : l.n ≤ 4096;
      in_area : 4 * l.n ≤ l.area;
      kept : Kept l.text l.area l.fn.kept l.kept l.rest l.n;
    }

abbrev pub decreases-loop-rest : goal.decreases-loop-rest
decreases-loop-rest l = length l.rest
