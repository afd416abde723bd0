-- The outline's numbers of a run's refusals.
-- Assumes nothing.
use Rattle.std.specs.Prelude.{ℕ, Result, Ok, Err}
use Rattle.book.specs.Book.{number as book_number}
use Rattle.run.specs.declared.Refusal.{Refusal}
use Rattle.run.specs.declared.Refusal.TheVariants.{Book, EventList, AnswerArea}

abbrev pub number : Refusal → ℕ
number (Book r) = book_number r
number EventList = 6
number AnswerArea = 7

-- 0 is no refusal
abbrev pub number_of : Result (Unit {0}) Refusal → ℕ
number_of (Ok _) = 0
number_of (Err r) = number r
