-- What the desk lists after the run of a good book is that book's listing.
-- The argument: the book and the answers are those of the events (`ready`), and a run leaves the counts (`run_counts`).
-- Assumes nothing.
use Rattle.std.proofs.Common.{ℕ, ◌/◌, ◌%◌, ◌≤◌, ◌≡◌, List, length}
use Rattle.records.specs.Records.{events_of}
use Rattle.book.specs.Book.{book_refusal}
use Rattle.book.proofs.Chain.{good_of}
use Rattle.run.specs.Run.{run_book, run_answers}
use Rattle.demands.specs.Groups.{first_answers}
use Rattle.demands.specs.Whole.{good_book, good_area}
use Rattle.desk.specs.Desk.{records_most, book_line, listed, listing}
use Rattle.desk.specs.Journals.{run_counts, ready}

-- a good book, and whole events in an area of 4,096
module _ (b ev area : List ℕ) (good : book_refusal b ≡ 0) (whole : length ev % 4 ≡ 0) (few : length ev ≤ records_most) (room : records_most ≡ length area) where
  pub run_listed : {b' l' : List ℕ} → b' ≡ run_book b ev area → l' ≡ run_answers b ev area
      → listed b' (events_of ev) (first_answers (length ev / 4) l') ≡ listing b (events_of ev)
  unfolding listed listing book_line
  run_listed p q =
      let n = run_counts b (events_of ev) (good_of b good) in
      let r = ready b ev area good whole few room in
      rw (p, q, good_book b ev area r, good_area b ev area r, n.0, n.1)
