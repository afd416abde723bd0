-- There is no such activity (`fits_nowhere`), or the marks that are told are its own (`marks_fit`).
-- Assumes nothing.
use Rattle.std.proofs.Common.{ap, ◌≤◌, None, Some, arith}
use Rattle.book.specs.declared.Seat.{Seat}
use Rattle.book.specs.Layout.{activity_count}
use Rattle.book.specs.Marks.{marks_fit, fits_nowhere}
use Rattle.book.proofs.Book.seat_fits.Goals as goal

pub returns-in_default : goal.returns-in_default
returns-in_default g c =
    let none : activity_count c.args.self.now ≤ c.seat-x.result.activity =
    c.requires.marks.told c.seat-x.result.activity None c.seat-x.ensures.most c.in_default.ensures in
    fits_nowhere c.args.self.now c.args.n (omega (arith, none, ap (λ (x : Seat). x.activity) c.seat-x.ensures.value))

pub returns : goal.returns
returns g c =
    let told = c.requires.marks.told c.seat-x.result.activity (Some c.in-Some.marks) c.seat-x.ensures.most c.in-Some.ensures in
    simp (c.marked.ensures, told, c.seat-x.ensures.value)
    (marks_fit c.args.self.now c.args.n)
