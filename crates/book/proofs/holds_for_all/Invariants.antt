-- The walk has passed numbers at which the rule holds, and is not left.
-- Assumes nothing.
use Rattle.std.proofs.Common.{◌≡◌, ℕ, true, ◌<◌}
use Rattle.book.proofs.holds_for_all.Given as goal

abbrev pub invariant-walk : goal.invariant-walk
invariant-walk g l = (l.holds ≡ true) × ((k : ℕ) → k < l.n → goal.F-post g l.rule k true)
