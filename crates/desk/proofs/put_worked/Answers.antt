-- The run takes the book and the events (`ready`), so the book is the one after them and the answers are theirs.
-- Assumes nothing.
use Rattle.std.proofs.Common.{◌∙◌, sym, subst, arith}
use Rattle.book.specs.Layout.{Shaped}
use Rattle.text.specs.Page.{wrote_same}
use Rattle.desk.specs.Journals.{run_shaped, run_after}
use Rattle.desk.proofs.Listed.{run_listed}
use Rattle.desk.proofs.put_worked.Goals as goal

pub of-requires : goal.of-requires
of-requires c =
    let n = c.requires.events_len in
    subst Shaped (sym c.run.ensures.book) (run_shaped c.args.book.now c.args.events.now _ c.requires.good n.0 n.1 (omega arith))

pub returns-clause-text : goal.returns-clause-text
returns-clause-text c =
    let n = c.requires.events_len in
    wrote_same
    (run_listed c.args.book.now c.args.events.now _ c.requires.good n.0 n.1 (omega arith) (c.of.ensures ∙ c.run.ensures.book) c.run.ensures.area)
    c.put_listing.ensures

pub returns-clause-book : goal.returns-clause-book
returns-clause-book c =
    let n = c.requires.events_len in run_after c.args.book.now c.args.events.now _ c.requires.good n.0 n.1 (omega arith) c.run.ensures.book
