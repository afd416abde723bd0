-- A book that is not opened is refused for its header, and another for its records (`opened_refusal`).
-- Assumes nothing.
use Rattle.std.proofs.Common.{◌∙◌, ap}
use Rattle.std.proofs.lemmas.Result.{err_from_is_err_and}
use Rattle.book.proofs.Open.{refused, opened_refusal}
use Rattle.book.proofs.check.Goals as goal

pub returns-in_err-new : goal.returns-in_err-new
returns-in_err-new c =
    let p = err_from_is_err_and c.from_residual.result c.from_residual.ensures.1 in
    rw (p.1, p.2) (ap refused c.in_err-new.ensures ∙ opened_refusal c.args.book.now)

pub returns : goal.returns
returns c = c.check.ensures ∙ ap refused c.in_ok-new.ensures ∙ opened_refusal c.args.book.now
