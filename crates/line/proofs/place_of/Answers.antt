-- `line::place_of` meets its contract: the library's `position` over a slice. Assumes nothing.
use Rattle.std.proofs.Common.{rules, tests}
use Rattle.std.proofs.lemmas.Iterator.{YieldsList-from_slice}
use Rattle.std.proofs.lemmas.Iterator.Search.{position_from_yields_List}
use Rattle.line.specs.Seats.{place_in}
use Rattle.line.proofs.place_of.Goals as goal

pub returns-clause-place : goal.returns-clause-place
unfolding place_in
returns-clause-place c = position_from_yields_List _ _ _ _ c.position.ensures.ran (YieldsList-from_slice c.args.s.now cc) (λ x b q k. search (rules, tests))
