-- One event: its answer, refusals 11 to 15 in order, and the book after it.
-- Assumes nothing.
use Rattle.std.specs.Prelude.{Bool, cond, not, ◌&&◌, ℕ, ◌+◌, ◌*◌, List, get_or, ltb, leb, eqb}
use Rattle.records.specs.declared.Event.{Event}
use Rattle.rules.specs.declared.Answer.{Answer}
use Rattle.rules.specs.Numbers.{sent, coordinator}
use Rattle.rules.specs.Rules.{moves, entry_of, answer_of, answer, four_of}
use Rattle.rules.specs.Outcome.{asked_by}
use Rattle.book.specs.declared.Activity.{Activity}
use Rattle.book.specs.declared.Seat.{Seat}
use Rattle.book.specs.Layout.{seat_count, activity_of, seat_of, moved}
use Rattle.book.specs.Book.{atomic}

-- a refused event's answer is number, state, 0, 0
abbrev pub refused : ℕ → ℕ → Answer
refused number state = answer number state 0 0

-- a way 0 or 1 and a message 1 to 14
unfoldable pub known : ℕ → ℕ → Bool
known way m = leb way 1 && leb 1 m && leb m 14

-- 12, 13 and 14, and what the seat's table answers
unfoldable pub ruled : Seat → ℕ → ℕ → Answer
ruled x way m =
    cond (not (known way m)) (refused 12 x.state)
    (cond (not (moves x.role way m)) (refused 13 x.state)
    (answer_of (entry_of x.role x.table way m x.state) x.state))

-- the number of an event that the tables do not list
unfoldable pub unlisted_number : ℕ → ℕ → ℕ → ℕ
unlisted_number role way m = cond (not (known way m)) 12 (cond (not (moves role way m)) 13 14)

-- the direction that an event asks for, or 0: a Close or Compensate sent at a coordinator seat ..
unfoldable pub asked : ℕ → ℕ → ℕ → ℕ
asked role way m = cond (eqb role coordinator && eqb way sent) (asked_by m) 0

-- .. of an atomic activity
unfoldable pub wanted : ℕ → ℕ → ℕ → ℕ → ℕ
wanted kind role way m = cond (eqb kind atomic) (asked role way m) 0

-- an event that asks for a direction is refused if that was the other, and sets it if that was 0
unfoldable pub clashes : ℕ → ℕ → Bool
clashes direction want = not (eqb want 0) && not (eqb direction 0) && not (eqb direction want)

unfoldable pub turned : ℕ → ℕ → ℕ
turned direction want = cond (eqb want 0) direction want

-- 15: outcome against the direction
unfoldable pub outcome_of : ℕ → ℕ → ℕ → Answer → Answer
outcome_of direction want state q = cond (eqb q.refusal 0 && clashes direction want) (refused 15 state) q

unfoldable pub judged : Activity → Seat → ℕ → ℕ → Answer
judged y x way m = outcome_of y.direction (wanted y.kind x.role way m) x.state (ruled x way m)

-- the activity of seat n
abbrev pub lot_of : List ℕ → ℕ → Activity
lot_of b n = activity_of b (seat_of b n).activity

-- 11: seat ≥ s
unfoldable pub answer_to : List ℕ → Event → Answer
answer_to b e =
    cond (not (ltb e.seat (seat_count b))) (refused 11 0)
    (judged (lot_of b e.seat) (seat_of b e.seat) e.way e.message)

-- a refused event leaves the book; another leaves the seat in the answer's state and its activity with the direction given
unfoldable pub turned_book : List ℕ → ℕ → ℕ → Answer → List ℕ
turned_book b n direction a = cond (eqb a.refusal 0) (moved b n a.state direction) b

unfoldable pub book_after : List ℕ → Event → List ℕ
book_after b e =
    turned_book b e.seat
    (turned (lot_of b e.seat).direction (wanted (lot_of b e.seat).kind (seat_of b e.seat).role e.way e.message))
    (answer_to b e)

-- an answer is four bytes: refusal, state after, action, reply
abbrev pub answer_bytes : Answer → List ℕ
answer_bytes = four_of

unfoldable pub answer_at : List ℕ → ℕ → Answer
answer_at l n = answer (get_or l (4 * n) 0) (get_or l (4 * n + 1) 0) (get_or l (4 * n + 2) 0) (get_or l (4 * n + 3) 0)
