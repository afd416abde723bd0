-- Every activity is good, so this one is (`lot_good`).
-- Assumes nothing.
use Rattle.std.proofs.Common.{◌∙◌, ap, arith}
use Rattle.book.specs.declared.Activity.{Activity}
use Rattle.book.specs.Book.{activity_good}
use Rattle.book.specs.Good.{lot_good}
use Rattle.book.proofs.Book.marks_of.Goals as goal

pub seat_marks-requires : goal.seat_marks-requires
seat_marks-requires c =
    ap (λ (y : Activity). activity_good y.kind y.direction) c.activity.ensures ∙ lot_good _ _ c.requires (omega arith)
