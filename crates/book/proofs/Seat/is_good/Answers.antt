-- The two halves of the definition in order.
-- Assumes nothing.
use Rattle.std.proofs.Common.{arith, le-ltb, lt-ltb}
use Rattle.book.specs.Book.{seat_good}
use Rattle.book.proofs.Seat.is_good.Goals as goal

pub returns-then-activities-self : goal.returns-then-activities-self
unfolding seat_good
returns-then-activities-self c = simp (le-ltb c.args.self.activity c.args.activities (omega arith))

pub returns : goal.returns
unfolding seat_good
returns c = simp (lt-ltb c.args.self.activity c.args.activities (omega arith)) c.has_state.ensures
