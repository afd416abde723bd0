-- One walk finds both 4 and 5, or neither (`fit_seats`).
-- Assumes nothing.
use Rattle.std.proofs.Common.{sym, ◌∙◌}
use Rattle.book.proofs.Fits.{fit_seats}
use Rattle.book.proofs.Book.check_seats.Goals as goal

pub returns-then-seats_fit : goal.returns-then-seats_fit
returns-then-seats_fit g c =
    let f = fit_seats _ (sym c.seats_fit.ensures ∙ c.if-seats_fit.true) in
    simp (f.0, f.1)
