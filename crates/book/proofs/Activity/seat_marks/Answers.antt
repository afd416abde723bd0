-- A number that is none of the first three has the marks of a mixed activity (`marks_by_lem`); `marks_are` is the attribute's.
-- Assumes nothing.
use Rattle.std.proofs.Common.{◌+◌, ◌*◌, ◌%◌, ◌≢◌, sym, ◌∙◌, ne_eqb, arith}
use Rattle.book.specs.Marks.{marks_by_lem}
use Rattle.book.proofs.Activity.seat_marks.Goals as goal

pub returns-in_default : goal.returns-in_default
returns-in_default c =
    let w = (3 * c.args.self.kind + c.args.self.direction + 1) % 4 in
    let not_0 : w ≢ 0 = λ e. omega arith in
    let not_1 : w ≢ 1 = λ e. omega arith in
    let not_2 : w ≢ 2 = λ e. omega arith in
    sym (simp (ne_eqb _ _ not_0, ne_eqb _ _ not_1, ne_eqb _ _ not_2)) ∙ marks_by_lem _ _ c.requires
