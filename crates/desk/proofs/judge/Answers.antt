-- Each way out is one case of `judged`.
-- Assumes nothing.
use Rattle.std.proofs.Common.{sym, ◌∙◌, ◌*◌, refl, Ok, Err, arith, take, drop}
use Rattle.std.proofs.lemmas.Result.{err_from_is_err_and}
use Rattle.journal.specs.Journal.{told}
use Rattle.journal.specs.Single.{number_range}
use Rattle.desk.specs.Journals.{Taken, read_refused, read_taken}
use Rattle.desk.specs.Ends.{some_head, cut_off, refuses_short, refuses_book, good_book, behind_refused, behind_worked}
use Rattle.desk.proofs.judge.Goals as goal

pub returns-in_err-ok_or : goal.returns-in_err-ok_or
returns-in_err-ok_or c =
    let p = err_from_is_err_and c.from_residual.result c.from_residual.ensures.1 in
    rw (p.1, p.2) (refuses_short c.args.input.now c.new.result _ c.in_err-ok_or.ensures.value c.new.ensures)

pub returns-then-input-size : goal.returns-then-input-size
returns-then-input-size c =
    let h = some_head _ _ (sym c.in_ok-ok_or.ensures.ok_part ∙ c.new.ensures) in
    let e = cut_off c.args.input.now h.0 c.size-size.result (c.size-size.ensures ∙ h.1) c.if-input-size.true in
    rw c.into.ensures (record { come = e; line = tt })

pub returns-in_err-check : goal.returns-in_err-check
returns-in_err-check c =
    let p = err_from_is_err_and c.from_residual-in_err-check.result c.from_residual-in_err-check.ensures.1 in
    let some = sym c.in_ok-ok_or.ensures.ok_part ∙ c.new.ensures in
    rw (p.1, p.2)
    (refuses_book _ _ _ _ some c.size-size.ensures c.if-input-size.false c.split_at.ensures.front _ c.in_err-check.ensures)

pub returns-in_err-count : goal.returns-in_err-count
returns-in_err-count c =
    let x = c.in_err-count.field-0.0 in
    let p = err_from_is_err_and c.from_residual-in_err-count.result c.from_residual-in_err-count.ensures.1 in
    let some = sym c.in_ok-ok_or.ensures.ok_part ∙ c.new.ensures in
    let g = good_book _ _ _ _ some c.size-size.ensures c.if-input-size.false c.split_at.ensures.front c.in_ok-check.ensures in
    let r = read_refused _ _ _ (told (Err x)) c.split_at.ensures.back c.requires c.in_err-count.ensures.value
    (λ e. omega (arith, e, number_range x.refusal)) in
    rw (p.1, p.2) (record { come = g.1 ∙ behind_refused c.args.input.now c.size-size.result _ _ r.0; line = r.1 })

-- the events of a good reading
taken : (c : goal.In_ok-count) → Taken (drop c.size-size.result c.args.input.now) c.in_ok-count.count (take (4 * c.in_ok-count.count) c.read.new.area)
taken c =
    let said = c.in_ok-count.ensures in
    read_taken _ _ (told (Ok c.in_ok-count.count)) c.args.area.now c.read.new.area c.split_at.ensures.back c.requires said.value said.bytes c.read.auto.area refl

pub overflow_mul-result : goal.overflow_mul-result
overflow_mul-result c = let t = taken c in omega (arith, t.room)

pub returns : goal.returns
returns c =
    let some = sym c.in_ok-ok_or.ensures.ok_part ∙ c.new.ensures in
    let b = good_book _ _ _ _ some c.size-size.ensures c.if-input-size.false c.split_at.ensures.front c.in_ok-check.ensures in
    let t = taken c in
    record {
      within = c.if-input-size.false;
      good = b.0;
      whole = omega arith;
      room = t.room;
      come = b.1 ∙ behind_worked c.args.input.now c.size-size.result _ _ t;
    }
