-- Which books are good: refusals 1 to 5 of the outline, each over the whole book before the next.
-- Assumes nothing.
use Rattle.std.specs.Prelude.{Bool, Option, None, Some, Result, Ok, Err, true, cond, not, ◌&&◌, ℕ, ◌+◌, ◌*◌, List, length, leb, ltb, eqb}
use Rattle.lemmas.specs.Walks.{every}
use Rattle.rules.specs.Numbers.{coordinator}
use Rattle.rules.specs.Rules.{has_state}
use Rattle.rules.specs.Outcome.{suits}
use Rattle.book.specs.declared.Refusal.{Refusal}
use Rattle.book.specs.declared.Refusal.TheVariants.{Short, Layout, Activity, Seat as Bad_seat, SeatDirection}
use Rattle.book.specs.declared.Seat.{Seat}
use Rattle.book.specs.Layout.{activity_count, seat_count, activities_from, seats_from, head_size, activity_size, seat_size, most_activities, most_seats, activity_of, seat_of}

abbrev pub atomic : ℕ
atomic = 1

abbrev pub mixed : ℕ
mixed = 2

-- 2: count, offset or length not as they must be
unfoldable pub numbers_good : ℕ → ℕ → ℕ → ℕ → ℕ → Bool
numbers_good a s acts seats len =
    leb a most_activities && leb s most_seats && eqb acts head_size && eqb seats (head_size + activity_size * a)
    && eqb len (head_size + activity_size * a + seat_size * s)

unfoldable pub head_good : List ℕ → Bool
head_good b = numbers_good (activity_count b) (seat_count b) (activities_from b) (seats_from b) (length b)

-- 3: kind or direction out of range, or mixed with a direction
unfoldable pub activity_good : ℕ → ℕ → Bool
activity_good kind direction = cond (eqb kind atomic) (leb direction 2) (eqb kind mixed && eqb direction 0)

abbrev pub activity_good_at : List ℕ → ℕ → Bool
activity_good_at b k = activity_good (activity_of b k).kind (activity_of b k).direction

unfoldable pub activities_good : List ℕ → Bool
activities_good b = every (activity_good_at b) (activity_count b)

-- 4: a seat's activity ≥ a, or role, table or state not allowed
unfoldable pub seat_good : ℕ → Seat → Bool
seat_good a x = ltb x.activity a && has_state x.role x.table x.state

abbrev pub seat_good_at : List ℕ → ℕ → Bool
seat_good_at b n = seat_good (activity_count b) (seat_of b n)

unfoldable pub seats_good : List ℕ → Bool
seats_good b = every (seat_good_at b) (seat_count b)

-- 5: a seat against its activity's direction. In an atomic activity a coordinator seat has the direction that its state needs
unfoldable pub agrees : ℕ → ℕ → ℕ → ℕ → Bool
agrees kind direction role state =
    cond (eqb kind atomic && eqb role coordinator) (suits direction state) true

unfoldable pub agrees_at : List ℕ → ℕ → Bool
agrees_at b n =
    agrees (activity_of b (seat_of b n).activity).kind (activity_of b (seat_of b n).activity).direction (seat_of b n).role (seat_of b n).state

unfoldable pub directions_good : List ℕ → Bool
directions_good b = every (agrees_at b) (seat_count b)

-- the number of the first refusal that applies, or 0: of the seats, of all records, of the book
abbrev pub seats_refusal : List ℕ → ℕ
seats_refusal b = cond (not (seats_good b)) 4 (cond (not (directions_good b)) 5 0)

abbrev pub activities_refusal : List ℕ → ℕ
activities_refusal b = cond (not (activities_good b)) 3 0

abbrev pub records_refusal : List ℕ → ℕ
records_refusal b = cond (not (activities_good b)) 3 (seats_refusal b)

unfoldable pub book_refusal : List ℕ → ℕ
book_refusal b = cond (ltb (length b) head_size) 1 (cond (not (head_good b)) 2 (records_refusal b))

-- 4 and 5 at once: what the code looks for first
abbrev pub fits_at : List ℕ → ℕ → Bool
fits_at b n = seat_good_at b n && agrees_at b n

unfoldable pub seats_fit : List ℕ → Bool
seats_fit b = every (fits_at b) (seat_count b)

-- the number that says a refusal, and 0 where there is none
abbrev pub number : Refusal → ℕ
number Short = 1
number Layout = 2
number Activity = 3
number Bad_seat = 4
number SeatDirection = 5

abbrev pub number_of : Result (Unit {0}) Refusal → ℕ
number_of (Ok _) = 0
number_of (Err r) = number r

-- the bytes that have a header; those that are a book, and why others are not
abbrev pub headed : List ℕ → Option (List ℕ)
headed b = cond (ltb (length b) head_size) None (Some b)

abbrev pub opened : List ℕ → Result (List ℕ) Refusal
opened b = cond (ltb (length b) head_size) (Err Short) (cond (not (head_good b)) (Err Layout) (Ok b))
