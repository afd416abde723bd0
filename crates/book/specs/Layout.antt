-- Where the book's records stand: byte positions are defined here alone.
-- Assumes nothing.
use Rattle.std.specs.Prelude.{◌≡◌, ℕ, ◌+◌, ◌*◌, ◌≤◌, List, length, get_or, set, take}
use Rattle.records.specs.Records.{at16}
use Rattle.book.specs.declared.Activity.{Activity}
use Rattle.book.specs.declared.Seat.{Seat}

-- a header of four 16-bit numbers: activity count, seat count, offset of activities, offset of seats
abbrev pub head_size : ℕ
head_size = 8

abbrev pub activity_count : List ℕ → ℕ
activity_count b = at16 b 0

abbrev pub seat_count : List ℕ → ℕ
seat_count b = at16 b 2

abbrev pub activities_from : List ℕ → ℕ
activities_from b = at16 b 4

abbrev pub seats_from : List ℕ → ℕ
seats_from b = at16 b 6

-- an activity is two bytes, a seat four
abbrev pub activity_size : ℕ
activity_size = 2

abbrev pub seat_size : ℕ
seat_size = 4

abbrev pub most_activities : ℕ
most_activities = 256

abbrev pub most_seats : ℕ
most_seats = 4096

-- the length that the header asks for
abbrev pub size_of : List ℕ → ℕ
size_of b = head_size + activity_size * activity_count b + seat_size * seat_count b

abbrev pub activity_at : ℕ → ℕ
activity_at k = head_size + activity_size * k

abbrev pub direction_at : ℕ → ℕ
direction_at k = activity_at k + 1

abbrev pub seat_at : List ℕ → ℕ → ℕ
seat_at b n = seats_from b + seat_size * n

abbrev pub state_at : List ℕ → ℕ → ℕ
state_at b n = seat_at b n + 3

-- kind, direction
unfoldable pub activity_of : List ℕ → ℕ → Activity
activity_of b k = record { kind = get_or b (activity_at k) 0; direction = get_or b (direction_at k) 0 }

-- activity, role, table, state
unfoldable pub seat_of : List ℕ → ℕ → Seat
seat_of b n = record {
  activity = get_or b (seat_at b n) 0;
  role = get_or b (seat_at b n + 1) 0;
  table = get_or b (seat_at b n + 2) 0;
  state = get_or b (state_at b n) 0;
}

unfoldable pub head_of : List ℕ → List ℕ
head_of b = take head_size b

-- what an event may write: a seat's state, an activity's direction
unfoldable pub put_state : List ℕ → ℕ → ℕ → List ℕ
put_state b n v = set b (state_at b n) v

unfoldable pub put_direction : List ℕ → ℕ → ℕ → List ℕ
put_direction b k v = set b (direction_at k) v

abbrev pub with_state : Seat → ℕ → Seat
with_state x v = record { activity = x.activity; role = x.role; table = x.table; state = v }

abbrev pub with_direction : Activity → ℕ → Activity
with_direction y v = record { kind = y.kind; direction = v }

-- the book with seat n in state v and its activity's direction d
abbrev pub moved : List ℕ → ℕ → ℕ → ℕ → List ℕ
moved b n v d = put_direction (put_state b n v) (seat_of b n).activity d

-- count, offset and length as they must be
pub record Shaped (b : List ℕ) : Type 0 where
  pub acts : activity_count b ≤ most_activities
  pub seats : seat_count b ≤ most_seats
  pub acts_from : activities_from b ≡ head_size
  pub seats_from : seats_from b ≡ head_size + activity_size * activity_count b
  pub len : length b ≡ size_of b
