-- A walk that came to the end passed every number, and one that was left found a number at which the rule does not hold.
-- Assumes nothing.
use Rattle.std.proofs.Common.{true, sym, ◌∙◌, arith}
use Rattle.lemmas.specs.Walks.{every_all, every_bad}
use Rattle.book.proofs.holds_for_all.Goals as goal
use Rattle.book.proofs.holds_for_all.Goals.{else-walk-test, then-walk-test+then-not-rule}

pub returns : goal.returns
returns g c = λ p says. elim c.walk-test.branch [
  | else-walk-test w ↦
      w.holds-is ∙ c.walk.invariant.0 ∙ sym (every_all p c.args.count (λ k l. sym (says k true l (c.walk.invariant.1 k (omega arith)))))
  | then-walk-test+then-not-rule w ↦
      let bad = sym (says c.walk.n w.rule.result w.walk-test.true w.rule.ensures) ∙ w.if-not-rule.true in
      w.holds-is ∙ sym (every_bad p c.args.count c.walk.n w.walk-test.true bad)
]
