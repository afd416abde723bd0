-- The outline's marked (*) lot cases and the six events of its program example: what the definitions answer is what the paper prints.
-- Assumes nothing.
use Rattle.std.specs.Prelude.{◌≡◌, refl, List, [], ◌∷◌, ◌++◌, map, ℕ}
use Rattle.records.specs.declared.Event.{Event}
use Rattle.records.specs.Records.{at16}
use Rattle.rules.specs.declared.Answer.{Answer}
use Rattle.rules.specs.Numbers.{received, sent, close, compensate, fail, closed}
use Rattle.rules.specs.Tables.{coordinator_receives, coordinator_sends, participant_receives, participant_sends}
use Rattle.rules.specs.Rules.{has_state, last_state, sends, receives, moves, line_of, entry_of, answer}
use Rattle.rules.specs.Outcome.{asked_by}
use Rattle.rules.specs.Cases.{marked, answered}
use Rattle.book.specs.Layout.{activity_of, seat_of, put_state, put_direction}
use Rattle.run.specs.Step.{known, ruled, asked, wanted, clashes, turned, judged, answer_to, book_after, outcome_of, turned_book}
use Rattle.run.specs.Run.{after, answers}

-- one atomic activity; two coordinator seats under the split table, both Completed
abbrev pub example_book : List ℕ
example_book = 1 ∷ 0 ∷ 2 ∷ 0 ∷ 8 ∷ 0 ∷ 10 ∷ 0 ∷ 1 ∷ 0 ∷ 0 ∷ 1 ∷ 2 ∷ 5 ∷ 0 ∷ 1 ∷ 2 ∷ 5 ∷ []

abbrev event : ℕ → ℕ → ℕ → Event
event s w m = record { seat = s; way = w; message = m }

abbrev pub example_events : List Event
example_events =
    event 0 sent close
    ∷ event 1 sent compensate
    ∷ event 1 sent close
    ∷ event 0 received fail
    ∷ event 1 received closed
    ∷ event 2 sent close
    ∷ []

abbrev pub example_prints : List Answer
example_prints =
    answer 0 6 0 0
    ∷ answer 15 5 0 0
    ∷ answer 0 6 0 0
    ∷ answer 14 6 0 0
    ∷ answer 0 12 3 0
    ∷ answer 11 0 0 0
    ∷ []

pub all_hold : map answered marked ++ answers example_book example_events ≡ map (λ c. c.gives) marked ++ example_prints
unfolding entry_of line_of has_state last_state coordinator_receives coordinator_sends participant_receives participant_sends at16 activity_of seat_of put_state put_direction known ruled asked wanted clashes turned judged answer_to book_after moves sends receives asked_by outcome_of turned_book
all_hold = refl

-- the seats end in 6 and 12, and the activity is directed to close
pub example_ends : after example_book example_events
    ≡ 1 ∷ 0 ∷ 2 ∷ 0 ∷ 8 ∷ 0 ∷ 10 ∷ 0 ∷ 1 ∷ 1 ∷ 0 ∷ 1 ∷ 2 ∷ 6 ∷ 0 ∷ 1 ∷ 2 ∷ 12 ∷ []
unfolding entry_of line_of has_state last_state coordinator_receives coordinator_sends participant_receives participant_sends at16 activity_of seat_of put_state put_direction known ruled asked wanted clashes turned judged answer_to book_after moves sends receives asked_by outcome_of turned_book
example_ends = refl
