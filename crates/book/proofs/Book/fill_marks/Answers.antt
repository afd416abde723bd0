-- A walk that is left at the first activity that fails: one more that passes has its marks (`marked_more`), and the end tells whether all were
-- good (the invariant stands beside).
-- Assumes nothing.
use Rattle.std.proofs.Common.{◌≡◌, refl, sym, ◌∙◌, ap, arith, false}
use Rattle.lemmas.specs.Walks.{every, every_none, every_more, every_bad}
use Rattle.book.specs.declared.Activity.{Activity}
use Rattle.book.specs.Layout.{activity_count}
use Rattle.book.specs.Book.{activity_good, activity_good_at, activities_good}
use Rattle.book.specs.Marks.{seat_marks, marked_more}
use Rattle.book.proofs.Book.fill_marks.Goals as goal

pub walk-init : goal.walk-init
walk-init c = (refl, every_none _, c.requires)

pub walk-preserved : goal.walk-preserved
walk-preserved c =
    let v = c.walk.invariant in
    let is_y = c.activity-y.ensures in (
      v.0,
      every_more _ _ v.1 (sym (ap (λ (y : Activity). activity_good y.kind y.direction) is_y) ∙ sym c.is_good.ensures ∙ c.if-not-is_good.false),
      marked_more c.args.self.now c.walk.k c.seat_marks.result c.walk.marks (omega arith)
          (c.seat_marks.ensures ∙ ap (λ (y : Activity). seat_marks y.kind y.direction) is_y) v.2,
    )

pub returns-after-walk-clause-value : goal.returns-after-walk-clause-value
unfolding activities_good
returns-after-walk-clause-value c =
    let v = c.walk.invariant in
    let all : c.walk.k ≡ activity_count c.args.self.now = omega arith in
    simp (v.0, sym (ap (every (activity_good_at c.args.self.now)) all) ∙ v.1)

pub returns-then-not-is_good-clause-value : goal.returns-then-not-is_good-clause-value
unfolding activities_good
returns-then-not-is_good-clause-value c =
    let bad : activity_good_at c.args.self.now c.walk.k ≡ false =
    sym (ap (λ (y : Activity). activity_good y.kind y.direction) c.activity-y.ensures) ∙ sym c.is_good.ensures ∙ c.if-not-is_good.true in
    simp (every_bad (activity_good_at c.args.self.now) (activity_count c.args.self.now) c.walk.k (omega arith) bad)
