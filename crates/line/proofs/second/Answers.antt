-- `line::second` meets its contract: a way and a space, and the rest is the third function's.
-- Assumes nothing.
use Rattle.std.proofs.Common.{sym, ◌∙◌}
use Rattle.line.proofs.Steps.{second_none, second_unnamed, second_good}
use Rattle.line.proofs.second.Goals as goal

pub returns-in_default : goal.returns-in_default
returns-in_default c = sym (second_none _ _ (sym c.place_of.ensures.place ∙ c.in_default.is))

pub returns-in_default-way_named : goal.returns-in_default-way_named
returns-in_default-way_named c = sym (second_unnamed _ _ c.in-Some.at (sym c.place_of.ensures.place ∙ c.in-Some.is) c.in_default-way_named.ensures)

pub returns : goal.returns
returns c =
    c.third.ensures
    ∙ sym (second_good _ _ c.in-Some.at (sym c.place_of.ensures.place ∙ c.in-Some.is) c.in-Some-way_named.way c.in-Some-way_named.ensures)
