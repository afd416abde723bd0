-- A run: the book and the answers after a list of events, and what the whole call returns and leaves.
-- Assumes nothing.
use Rattle.std.specs.Prelude.{cond, not, ◌||◌, ℕ, ◌*◌, ◌/◌, ◌%◌, List, [], ◌∷◌, ◌++◌, length, drop, ltb, eqb}
use Rattle.records.specs.declared.Event.{Event}
use Rattle.records.specs.Records.{flat, first_events, events_of}
use Rattle.rules.specs.declared.Answer.{Answer}
use Rattle.book.specs.Book.{book_refusal}
use Rattle.run.specs.Step.{answer_to, book_after, answer_bytes}

-- the book after all events, one after the other
abbrev pub after : List ℕ → List Event → List ℕ
after b [] = b
after b (e ∷ es) = after (book_after b e) es

-- the answers to all events, in order
abbrev pub answers : List ℕ → List Event → List Answer
answers b [] = []
answers b (e ∷ es) = answer_to b e ∷ answers (book_after b e) es

-- answer n stands at 4n; bytes past the last answer stay
abbrev pub filled : List ℕ → List ℕ → List ℕ → ℕ → List ℕ
filled b ev area n = flat answer_bytes (answers b (first_events ev n)) ++ drop (4 * n) area

abbrev pub most_events : ℕ
most_events = 4096

-- 1 to 5, then 6: event list not a multiple of 4 bytes, or over 4,096 events; 7: answer area shorter than the event list
unfoldable pub run_refusal : List ℕ → List ℕ → List ℕ → ℕ
run_refusal b ev area =
    cond (not (eqb (book_refusal b) 0)) (book_refusal b)
    (cond (not (eqb (length ev % 4) 0) || ltb most_events (length ev / 4)) 6 (cond (ltb (length area) (length ev)) 7 0))

-- a refused run writes nothing
unfoldable pub run_book : List ℕ → List ℕ → List ℕ → List ℕ
run_book b ev area = cond (eqb (run_refusal b ev area) 0) (after b (events_of ev)) b

unfoldable pub run_answers : List ℕ → List ℕ → List ℕ → List ℕ
run_answers b ev area = cond (eqb (run_refusal b ev area) 0) (filled b ev area (length ev / 4)) area
