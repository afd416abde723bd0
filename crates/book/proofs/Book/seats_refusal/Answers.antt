-- Where every seat is good, it is a direction that does not suit (`unfit_direction`).
-- Assumes nothing.
use Rattle.std.proofs.Common.{sym, ◌∙◌}
use Rattle.book.proofs.Fits.{unfit_direction}
use Rattle.book.proofs.Book.seats_refusal.Goals as goal

pub returns-then-not-seats_good : goal.returns-then-not-seats_good
returns-then-not-seats_good c = simp (sym c.seats_good.ensures ∙ c.if-not-seats_good.true)

pub returns : goal.returns
returns c =
    let s = sym c.seats_good.ensures ∙ c.if-not-seats_good.false in
    simp (s, unfit_direction _ c.requires s)
