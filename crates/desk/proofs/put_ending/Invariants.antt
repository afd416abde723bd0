-- After some turns so many numbers stand, each in at most six bytes.
-- Assumes nothing.
use Rattle.std.proofs.Common.{◌+◌, ◌*◌, ◌≤◌, take}
use Rattle.text.specs.Text.{field_most}
use Rattle.text.specs.Page.{Wrote}
use Rattle.desk.specs.Desk.{spaced}
use Rattle.desk.proofs.put_ending.Given as goal

abbrev pub invariant-loop-number : goal.invariant-loop-number
invariant-loop-number l =
    record {
      text : Wrote l.initial.page (spaced (take l.number-index l.numbers)) l.page;
      most : l.page.size ≤ l.initial.page.size + field_most * l.number-index;
    }
