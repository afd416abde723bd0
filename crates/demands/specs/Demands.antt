-- What the engine promises, in the mission's order. The contracts say for every input that `run` returns `run_refusal` and leaves
-- `run_book` and `run_answers`, and that `read` returns `reading` and leaves `area_after`; here stands what that comes to. Each is proved
-- in a file beside this one: Whole (runs and events), Journals, OneOutcome, Neighbours (groups).
-- Assumes nothing.
use Rattle.std.specs.Prelude.{◌≡◌, ◌≢◌, List, ◌++◌, ℕ, ◌*◌, ◌/◌, ◌<◌, length, drop}
use Rattle.std.proofs.Common.{sym, ap, ◌∙◌}
use Rattle.records.specs.declared.Event.{Event}
use Rattle.records.specs.Records.{flat, event_bytes, events_of}
use Rattle.rules.specs.Rules.{entry_of, answer_of}
use Rattle.book.specs.Layout.{activity_count, activity_of, seat_of, with_state, with_direction}
use Rattle.book.specs.Book.{book_refusal}
use Rattle.book.proofs.Chain.{good_of}
use Rattle.run.specs.Step.{turned, lot_of, answer_to, book_after}
use Rattle.run.specs.Run.{after, run_refusal, run_book, run_answers}
use Rattle.journal.specs.Journal.{reading, area_after}
use Rattle.spelled.specs.Texts.{Journal}
use Rattle.demands.specs.Firsts.{First}
use Rattle.demands.specs.Groups.{in_group, only, only_to, first_answers}
use Rattle.demands.specs.Neighbours.{same_answers, same_books}
use Rattle.demands.specs.OneOutcome.{want}
use Rattle.demands.specs.Whole.{run_tests, run_exactly, run_given, event_tests, event_exactly, event_given, refused_run, refused_event, Ready, good_book, good_area, Answered, table_answers, seat_moves, seats_stay, activity_turns, activities_stay, one_direction}
use Rattle.demands.specs.Journals.{text_tests, read_exactly, read_given, refused_read, journal_read, read_journal}

-- 1. It gives each numbered refusal exactly when its condition holds and no earlier one does: a run, an event, a journal ..
pub demand1_run : (b ev area : List ℕ) (n : ℕ) → n ≢ 0
    → (run_refusal b ev area ≡ n → First (run_tests b ev area) n) × (First (run_tests b ev area) n → run_refusal b ev area ≡ n)
demand1_run b ev area n nz = (run_exactly b ev area n nz, run_given b ev area n)

pub demand1_event : (b : List ℕ) (e : Event) (n : ℕ) → n ≢ 0
    → ((answer_to b e).refusal ≡ n → First (event_tests b e) n) × (First (event_tests b e) n → (answer_to b e).refusal ≡ n)
demand1_event b e n nz = (event_exactly b e n nz, event_given b e n)

pub demand1_journal : (text : List ℕ) (area n : ℕ) → n ≢ 0
    → ((reading text area).refusal ≡ n → First (text_tests text area) n) × (First (text_tests text area) n → (reading text area).refusal ≡ n)
demand1_journal text area n nz = (read_exactly text area n nz, read_given text area n)

-- .. a refused call changes no byte, and a refused event no byte of the book
pub demand1_call : (b ev area : List ℕ) → run_refusal b ev area ≢ 0 → (run_book b ev area ≡ b) × (run_answers b ev area ≡ area)
demand1_call = refused_run

pub demand1_reading : (text area : List ℕ) → (reading text (length area)).refusal ≢ 0 → area_after text area ≡ area
demand1_reading = refused_read

pub demand1_book : (b : List ℕ) (e : Event) → (answer_to b e).refusal ≢ 0 → book_after b e ≡ b
demand1_book = refused_event

-- 2. Each event that is not refused (`Answered`) gets the next state, action and reply of the table that its seat names. Its seat goes
-- there, its activity gets the direction asked for, and every other seat and activity stays
module _ (b : List ℕ) (e : Event) (good : book_refusal b ≡ 0) (a : Answered b e) where
  pub demand2_answer : answer_to b e
      ≡ answer_of (entry_of (seat_of b e.seat).role (seat_of b e.seat).table e.way e.message (seat_of b e.seat).state) (seat_of b e.seat).state
  demand2_answer = table_answers b e a

  pub demand2_seat : seat_of (book_after b e) e.seat ≡ with_state (seat_of b e.seat) (answer_to b e).state
  demand2_seat = seat_moves b e a good

  pub demand2_seats : (m : ℕ) → m ≢ e.seat → seat_of (book_after b e) m ≡ seat_of b m
  demand2_seats = seats_stay b e a good

  pub demand2_activity : activity_of (book_after b e) (seat_of b e.seat).activity
      ≡ with_direction (lot_of b e.seat) (turned (lot_of b e.seat).direction (want b e))
  demand2_activity = activity_turns b e a good

  pub demand2_activities : (k : ℕ) → k < activity_count b → k ≢ (seat_of b e.seat).activity → activity_of (book_after b e) k ≡ activity_of b k
  demand2_activities = activities_stay b e a good

-- with the one-outcome rule for atomic activities: once a direction was asked for, no later event of that activity asks for the other
pub demand2_outcome : (b : List ℕ) → book_refusal b ≡ 0 → (e : Event) (es : List Event) (f : Event)
    → (answer_to b e).refusal ≡ 0 → want b e ≢ 0
    → (answer_to (after (book_after b e) es) f).refusal ≡ 0 → want (after (book_after b e) es) f ≢ 0
    → (seat_of (after (book_after b e) es) f.seat).activity ≡ (seat_of b e.seat).activity
    → want (after (book_after b e) es) f ≡ want b e
demand2_outcome = one_direction

-- journals are read by the outline's grammar (`Journal`: each line is spelled as it says) and no other
pub demand2_journal : (text area : List ℕ) (es : List Event) → Journal text (length area) es
    → (reading text (length area) ≡ record { refusal = 0; line = 0; count = length es })
    × (area_after text area ≡ flat event_bytes es ++ drop (4 * length es) area)
demand2_journal = journal_read

pub demand2_no_other : (text : List ℕ) (area : ℕ) → (reading text area).refusal ≡ 0 → (es : List Event) × Journal text area es
demand2_no_other = read_journal

-- 3. One good book and two lists of whole events, each of at most 4,096, with answer areas long enough (`Ready`). If each group reads
-- the same, in order, in both lists, then both runs leave the same book byte for byte, and for each group the same answers in order
module _ (b ev ev' area area' : List ℕ) (r : Ready b ev area) (r' : Ready b ev' area')
    (groups : (g : ℕ) → only (in_group b g) (events_of ev) ≡ only (in_group b g) (events_of ev')) where
  pub demand3_book : run_book b ev area ≡ run_book b ev' area'
  demand3_book =
      good_book b ev area r ∙ same_books b (good_of b r.good) (events_of ev) (events_of ev') groups ∙ sym (good_book b ev' area' r')

  pub demand3_answers : (g : ℕ)
      → only_to (in_group b g) (events_of ev) (first_answers (length ev / 4) (run_answers b ev area))
      ≡ only_to (in_group b g) (events_of ev') (first_answers (length ev' / 4) (run_answers b ev' area'))
  demand3_answers g =
      ap (only_to (in_group b g) (events_of ev)) (good_area b ev area r)
      ∙ same_answers b (good_of b r.good) (events_of ev) (events_of ev') groups g
      ∙ sym (ap (only_to (in_group b g) (events_of ev')) (good_area b ev' area' r'))
