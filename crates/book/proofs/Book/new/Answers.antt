-- Each test that fails is the first to fail. A good header has the shape that the type asks for (`shaped`).
-- Assumes nothing.
use Rattle.std.proofs.Common.{sym, ◌∙◌, ap}
use Rattle.book.specs.Book.{head_good}
use Rattle.book.specs.Good.{shaped}
use Rattle.book.proofs.Open.{headed_is}
use Rattle.book.proofs.Book.new.Goals as goal

pub returns-then-not-is_good : goal.returns-then-not-is_good
returns-then-not-is_good c =
    let h = headed_is _ _ (sym c.new.ensures ∙ c.in_ok-head.ensures.ok_part) in
    simp (h.0, sym (c.is_good.ensures ∙ ap head_good h.1) ∙ c.if-not-is_good.true)

pub invariant_of-result : goal.invariant_of-result
invariant_of-result c =
    let h = headed_is _ _ (sym c.new.ensures ∙ c.in_ok-head.ensures.ok_part) in
    shaped _ (sym (c.is_good.ensures ∙ ap head_good h.1) ∙ c.if-not-is_good.false)

pub returns : goal.returns
returns c =
    let h = headed_is _ _ (sym c.new.ensures ∙ c.in_ok-head.ensures.ok_part) in
    simp (h.0, sym (c.is_good.ensures ∙ ap head_good h.1) ∙ c.if-not-is_good.false)
