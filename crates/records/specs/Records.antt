-- How numbers of 16 bits and records of four bytes stand in bytes.
-- Assumes nothing.
use Rattle.std.specs.Prelude.{ℕ, zero, suc, ◌+◌, ◌*◌, ◌/◌, ◌%◌, List, [], ◌∷◌, ◌++◌, length, get_or, take, drop}
use Rattle.std.specs.List.{flat_map}
use Rattle.records.specs.declared.Event.{Event}

-- little-endian: the number of 16 bits at a place
unfoldable pub at16 : List ℕ → ℕ → ℕ
at16 l at = get_or l at 0 + 256 * get_or l (at + 1) 0

-- an area with some bytes at a place; the bytes before and after stay
unfoldable pub placed : List ℕ → ℕ → List ℕ → List ℕ
placed l at xs = take at l ++ xs ++ drop (at + length xs) l

-- the bytes of records, one after the other
abbrev pub flat : {R : Type 0} → (R → List ℕ) → List R → List ℕ
flat = flat_map

-- an event is four bytes: seat (16 bits), way, message
unfoldable pub event_at : List ℕ → ℕ → Event
event_at l n = record { seat = at16 l (4 * n); way = get_or l (4 * n + 2) 0; message = get_or l (4 * n + 3) 0 }

abbrev pub event_bytes : Event → List ℕ
event_bytes e = e.seat % 256 ∷ e.seat / 256 % 256 ∷ e.way ∷ e.message ∷ []

-- the first n events of a list, in order
abbrev pub first_events : List ℕ → ℕ → List Event
first_events l zero = []
first_events l (suc n) = first_events l n ++ (event_at l n ∷ [])

-- all of them
abbrev pub events_of : List ℕ → List Event
events_of l = first_events l (length l / 4)
