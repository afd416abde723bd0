-- The book's line, the events' lines and the seats', one after the other.
-- Assumes nothing.
use Rattle.std.proofs.Common.{◌∷◌, [], ◌++◌, ◌∙◌}
use Rattle.names.specs.Names.{bytes}
use Rattle.text.specs.Page.{wrote_next, wrote_same}
use Rattle.desk.specs.Desk.{ending, listed}
use Rattle.desk.specs.Lines.{book_parts}
use Rattle.desk.proofs.put_listing.Goals as goal

pub returns : goal.returns
unfolding listed
returns c =
    let e = (λ j. bytes "book" ++ ending (c.activity_count.ensures.value j ∷ c.seat_count.ensures.value j ∷ [])) ∙ book_parts c.args.book.now in
    wrote_next (wrote_next (wrote_same e (wrote_next c.word.ensures c.put_ending.ensures.text)) c.put_events.ensures.text) c.put_seats.ensures
