-- The outline's marked lot cases hold (specs/Cases.antt has the list).
-- The argument: antt computes what each seat answers, and compares.
-- Assumes nothing.
use Rattle.std.proofs.Common.{◌≡◌, map, refl}
use Rattle.rules.specs.Tables.{coordinator_receives, coordinator_sends, participant_receives, participant_sends}
use Rattle.rules.specs.Rules.{has_state, last_state, line_of, entry_of}
use Rattle.rules.specs.Cases.{marked, answered}

pub marked_hold : map answered marked ≡ map (λ c. c.gives) marked
unfolding entry_of line_of has_state last_state coordinator_receives coordinator_sends participant_receives participant_sends
marked_hold = refl
