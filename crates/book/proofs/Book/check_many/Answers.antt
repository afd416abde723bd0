-- At first no activity has marks (`marked_none`).
-- Assumes nothing.
use Rattle.book.specs.Marks.{marked_none}
use Rattle.book.proofs.Book.check_many.Goals as goal

pub fill_marks-requires : goal.fill_marks-requires
fill_marks-requires c = marked_none c.args.self.now
