-- What the program prints for its whole input, sentence by sentence as 01 has it under 'The program', and what is left of the input.
-- Assumes nothing.
use Rattle.std.specs.Prelude.{ℕ, zero, suc, ◌+◌, ◌*◌, ◌/◌, ◌<◌, cond, List, [], ◌∷◌, ◌++◌, map, ltb, eqb, length, take, drop}
use Rattle.std.specs.List.{AllByRecursion}
use Rattle.names.specs.Names.{bytes}
use Rattle.records.specs.declared.Event.{Event}
use Rattle.records.specs.Records.{flat}
use Rattle.rules.specs.declared.Answer.{Answer}
use Rattle.book.specs.Layout.{head_size, most_seats, activity_count, seat_count, size_of, seat_of}
use Rattle.book.specs.Book.{book_refusal}
use Rattle.run.specs.Run.{after, answers, most_events}
use Rattle.demands.specs.Groups.{first_answers}
use Rattle.line.specs.Grammar.{space, newline}
use Rattle.journal.specs.Journal.{Outcome, events, refused, outcome}
use Rattle.text.specs.Text.{field_most, number_most, decimal}

-- one space between fields; every line ends in a newline
abbrev pub line : List (List ℕ) → List ℕ
line [] = newline ∷ []
line (f ∷ []) = f ++ (newline ∷ [])
line (f ∷ g ∷ fs) = f ++ (space ∷ line (g ∷ fs))

-- `refused N` for the book
unfoldable pub refused_book : ℕ → List ℕ
refused_book number = line (bytes "refused" ∷ decimal number ∷ [])

-- `refused N line L` for the journal
unfoldable pub refused_line : ℕ → ℕ → List ℕ
refused_line number n = line (bytes "refused" ∷ decimal number ∷ bytes "line" ∷ decimal n ∷ [])

-- `book a s`
unfoldable pub book_line : List ℕ → List ℕ
book_line b = line (bytes "book" ∷ decimal (activity_count b) ∷ decimal (seat_count b) ∷ [])

-- for each event its number from 1, seat, way, message, refusal, state, action, reply
unfoldable pub event_line : ℕ → Event → Answer → List ℕ
event_line n e a =
    line (map decimal (n ∷ e.seat ∷ e.way ∷ e.message ∷ a.refusal ∷ a.state ∷ a.action ∷ a.reply ∷ []))

abbrev pub event_lines : ℕ → List Event → List Answer → List ℕ
event_lines n [] as' = []
event_lines n (e ∷ es) [] = []
event_lines n (e ∷ es) (a ∷ as') = event_line n e a ++ event_lines (suc n) es as'

-- `seat n state` for each seat
unfoldable pub seat_line : List ℕ → ℕ → List ℕ
seat_line b n = line (bytes "seat" ∷ decimal n ∷ decimal (seat_of b n).state ∷ [])

abbrev pub seat_lines : List ℕ → ℕ → List ℕ
seat_lines b zero = []
seat_lines b (suc n) = seat_lines b n ++ seat_line b n

-- a listing: of a book, the events with their answers, and the seats of the book after the run
unfoldable pub listing : List ℕ → List Event → List ℕ
listing b es = book_line b ++ event_lines 1 es (answers b es) ++ seat_lines (after b es) (seat_count b)

-- what an input comes to: a refused book, a refused journal, or a book and the events of its journal
pub data Judged : Type 0 where
  bad_book : ℕ → Judged
  bad_journal : ℕ → ℕ → Judged
  worked : List ℕ → List Event → Judged

-- an area of 16,384 bytes has room for 4,096 events
abbrev pub records_most : ℕ
records_most = 16384

abbrev pub of_journal : List ℕ → Outcome → Judged
of_journal b (events es) = worked b es
of_journal b (refused number n) = bad_journal number n

-- the book is judged first
abbrev pub of_book : List ℕ → List ℕ → Judged
of_book b text = cond (eqb (book_refusal b) 0) (of_journal b (outcome text records_most)) (bad_book (book_refusal b))

-- a book, its length from its header, and then a journal; input ending before the book does is 2
unfoldable pub judged : List ℕ → Judged
judged input =
    cond (ltb (length input) head_size) (bad_book 1)
    (cond (ltb (length input) (size_of input)) (bad_book 2) (of_book (take (size_of input) input) (drop (size_of input) input)))

abbrev pub printed : Judged → List ℕ
printed (bad_book number) = refused_book number
printed (bad_journal number n) = refused_line number n
printed (worked b es) = listing b es

unfoldable pub report_of : List ℕ → List ℕ
report_of input = printed (judged input)

-- where a listing is printed the book is the book after the run; else nothing changes
abbrev pub left_by : List ℕ → Judged → List ℕ
left_by input (bad_book number) = input
left_by input (bad_journal number n) = input
left_by input (worked b es) = after b es ++ drop (length b) input

unfoldable pub input_after : List ℕ → List ℕ
input_after input = left_by input (judged input)

-- room for lines with five digits in each number: a word and a number, an event's line, a seat's, the book's; and all lines of a listing
abbrev pub term_most : List ℕ → ℕ
term_most word = length word + 1 + field_most

abbrev pub event_line_most : ℕ
event_line_most = 8 * field_most

abbrev pub seat_line_most : ℕ
seat_line_most = term_most (bytes "seat") + field_most

abbrev pub book_line_most : ℕ
book_line_most = term_most (bytes "book") + field_most

abbrev pub report_most : ℕ
report_most = book_line_most + event_line_most * most_events + seat_line_most * most_seats

-- the numbers that end a line, a space before each
abbrev pub spaced : List ℕ → List ℕ
spaced numbers = flat (λ n. space ∷ decimal n) numbers

unfoldable pub ending : List ℕ → List ℕ
ending numbers = spaced numbers ++ (newline ∷ [])

-- none of them has more than five digits
abbrev pub FewDigits : List ℕ → Type 0
FewDigits numbers = AllByRecursion (λ n. n < number_most) numbers

-- with so many bytes, or fewer
abbrev pub ending_most : ℕ → ℕ
ending_most count = field_most * count + 1

-- what the code makes of a journal behind a good book
abbrev pub behind : List ℕ → ℕ → Judged
behind input size = of_journal (take size input) (outcome (drop size input) records_most)

-- the answers that stand in an area to the events of a list
abbrev pub answers_in : List ℕ → List ℕ → List Answer
answers_in area ev = first_answers (length ev / 4) area

unfoldable pub listed : List ℕ → List Event → List Answer → List ℕ
listed b es as' = book_line b ++ event_lines 1 es as' ++ seat_lines b (seat_count b)
