-- One word and one number, and of a journal a word and a number more.
-- Assumes nothing.
use Rattle.std.proofs.Common.{ℕ, ap, ◌∙◌, rules}
use Rattle.text.specs.Page.{wrote_next, wrote_same}
use Rattle.desk.specs.Desk.{refused_book, refused_line}
use Rattle.desk.specs.Lines.{refused_book_parts, refused_line_parts}
use Rattle.desk.proofs.put_refusal.Goals as goal

pub returns-in-Book : goal.returns-in-Book
returns-in-Book c =
    rw c.in-Book.is (wrote_same (refused_book_parts _ ∙ ap refused_book (search rules)) (wrote_next c.word.ensures c.put_ending.ensures.text))

pub returns-in-Journal : goal.returns-in-Journal
returns-in-Journal c =
    let r = c.in-Journal.r in
    let line = wrote_next c.word-in-Journal.ensures c.put_ending-in-Journal.ensures.text in
    rw c.in-Journal.is
    (wrote_same (refused_line_parts _ r.line ∙ ap (λ (n : ℕ). refused_line n r.line) c.number.ensures)
    (wrote_next c.word.ensures (wrote_next c.byte.ensures (wrote_next c.field.ensures.text line))))
