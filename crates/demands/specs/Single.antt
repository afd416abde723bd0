-- Two results that a contract allows are equal, for the public functions of the crates that this page does not name below. Each
-- contract is an equation to a definition of the arguments, or to the bytes that are lent: the result (a name, a header, a book: its
-- bytes), and for a function that writes also the bytes afterwards. So is what a conversion gives. (The tables' other functions:
-- rules/specs/Single; a run: `run_single`; a journal: `read_single`; the program's text: desk. Where a contract tells a result by its
-- number or by a choice, that two of one number are one thing: specs/Single of its crate.)
-- Assumes nothing.
use Rattle.std.specs.Prelude.{◌≡◌, Result, List, [], ◌∷◌, ℕ, ◌*◌, take}
use Rattle.records.specs.declared.Event.{Event}
use Rattle.records.specs.Records.{at16, placed, event_at, event_bytes}
use Rattle.rules.specs.declared.Answer.{Answer}
use Rattle.rules.specs.Rules.{four_of, of_four}
use Rattle.rules.specs.Single.{one_result}
use Rattle.book.specs.Layout.{activity_count, seat_count, size_of, activity_of, seat_of, put_state, moved}
use Rattle.book.specs.Book.{book_refusal, headed, opened}
use Rattle.book.specs.declared.Refusal.{Refusal as BookRefusal}
use Rattle.run.specs.declared.Refusal.{Refusal as RunRefusal}
use Rattle.run.specs.declared.Refusal.TheVariants.{Book}
use Rattle.run.specs.Step.{answer_at}
use Rattle.run.specs.Codes.{number as run_number, number_of}
use Rattle.names.specs.declared.Message.{Message}
use Rattle.names.specs.declared.Way.{Way}
use Rattle.names.specs.Names.{message_named, way_named, name_of, way_name}
use Rattle.names.specs.Numbers.{message_number, way_number}
use Rattle.words.specs.Words.{word_at}
use Rattle.line.specs.Grammar.{newline, line_most, index_of, line_of}
use Rattle.line.specs.Quick.{aid_bytes}
use Rattle.line.specs.declared.Refusal.{Refusal as LineRefusal}
use Rattle.journal.specs.declared.Refusal.{Refusal as JournalRefusal}
use Rattle.journal.specs.declared.Refusal.TheVariants.{Line}
use Rattle.journal.specs.Journal.{number as journal_number}
use Rattle.text.specs.Text.{Put}

-- what is equal to x is one thing
abbrev pub Single : {A : Type 0} → A → Type 0
Single {A} x = (r r' : A) → r ≡ x → r' ≡ x → r ≡ r'

single : {A : Type 0} (x : A) → Single x
single x r r' = one_result

module _ (l : List ℕ) (at n : ℕ) where
  pub u16_at_single : Single (at16 l at)
  u16_at_single = single (at16 l at)

  pub put_bytes_single : (part : List ℕ) → Single (placed l at part)
  put_bytes_single part = single (placed l at part)

  pub put_four_single : (a b c d : ℕ) → Single (placed l at (a ∷ b ∷ c ∷ d ∷ []))
  put_four_single a b c d = single (placed l at (a ∷ b ∷ c ∷ d ∷ []))

  pub read_event_single : Single (event_at l n)
  read_event_single = single (event_at l n)

  pub put_event_single : (e : Event) → Single (placed l (4 * n) (event_bytes e))
  put_event_single e = single (placed l (4 * n) (event_bytes e))

  pub read_answer_single : Single (answer_at l n)
  read_answer_single = single (answer_at l n)

-- an event as four bytes, and an answer from four bytes and as four bytes
pub event_bytes_single : (e : Event) → Single (event_bytes e)
event_bytes_single e = single (event_bytes e)

pub answer_from_single : (four : List ℕ) → Single (of_four four)
answer_from_single four = single (of_four four)

pub answer_bytes_single : (a : Answer) → Single (four_of a)
answer_bytes_single a = single (four_of a)

-- a view of lent bytes: a header, a book, the aids
pub lent_single : (bytes : List ℕ) → Single bytes
lent_single bytes = single bytes

module _ (b : List ℕ) (n v d : ℕ) where
  pub check_single : Single (book_refusal b)
  check_single = single (book_refusal b)

  pub headed_single : Single (headed b)
  headed_single = single (headed b)

  pub opened_single : Single (opened b)
  opened_single = single (opened b)

  pub activity_count_single : Single (activity_count b)
  activity_count_single = single (activity_count b)

  pub seat_count_single : Single (seat_count b)
  seat_count_single = single (seat_count b)

  pub size_single : Single (size_of b)
  size_single = single (size_of b)

  pub read_activity_single : Single (activity_of b n)
  read_activity_single = single (activity_of b n)

  pub read_seat_single : Single (seat_of b n)
  read_seat_single = single (seat_of b n)

  pub put_state_single : Single (put_state b n v)
  put_state_single = single (put_state b n v)

  pub put_outcome_single : Single (moved b n v d)
  put_outcome_single = single (moved b n v d)

module _ (l : List ℕ) where
  pub message_named_single : Single (message_named l)
  message_named_single = single (message_named l)

  pub way_named_single : Single (way_named l)
  way_named_single = single (way_named l)

  pub next_size_single : Single (index_of newline (take line_most l))
  next_size_single = single (index_of newline (take line_most l))

  pub next_said_single : Single (line_of l)
  next_said_single = single (line_of l)

  pub u64_at_single : (at : ℕ) → Single (word_at l at)
  u64_at_single at = single (word_at l at)

module _ (m : Message) where
  pub message_number_single : Single (message_number m)
  message_number_single = single (message_number m)

  pub message_name_single : Single (name_of (message_number m))
  message_name_single = single (name_of (message_number m))

module _ (w : Way) where
  pub way_number_single : Single (way_number w)
  way_number_single = single (way_number w)

  pub way_name_single : Single (way_name (way_number w))
  way_name_single = single (way_name (way_number w))

-- the numbers of what a run, and a journal, is refused for
pub run_refusal_number_single : (r : RunRefusal) → Single (run_number r)
run_refusal_number_single r = single (run_number r)

pub run_number_single : (worked : Result (Unit {0}) RunRefusal) → Single (number_of worked)
run_number_single worked = single (number_of worked)

pub journal_refusal_number_single : (r : JournalRefusal) → Single (journal_number r)
journal_refusal_number_single r = single (journal_number r)

-- a refusal of a book as a run's, and of a line as a journal's
pub run_from_book_single : (r : BookRefusal) → Single (Book r)
run_from_book_single r = single (Book r)

pub journal_from_line_single : (r : LineRefusal) → Single (Line r)
journal_from_line_single r = single (Line r)

pub aids_single : Single aid_bytes
aids_single = single aid_bytes

-- the functions of `text`: one area and one place
pub put_single : (area : List ℕ) (at : ℕ) (text l l' : List ℕ) (r r' : ℕ) → Put area at text l r → Put area at text l' r' → (l ≡ l') × (r ≡ r')
put_single area at text l l' r r' p q = (one_result p.bytes q.bytes, one_result p.end q.end)
