-- The walk has passed good activities alone, and each has its marks.
-- Assumes nothing.
use Rattle.std.proofs.Common.{◌≡◌, Ok, true}
use Rattle.lemmas.specs.Walks.{every}
use Rattle.book.specs.Book.{activity_good_at}
use Rattle.book.specs.Marks.{Marked}
use Rattle.book.proofs.Book.fill_marks.Given as goal

abbrev pub invariant-walk : goal.invariant-walk
invariant-walk l = (l.outcome ≡ Ok tt) × (every (activity_good_at l.self) l.k ≡ true) × Marked l.self l.k l.marks
