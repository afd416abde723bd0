-- `line::quick::read` meets its contract: what was found is a line of a seat, a way and a name (`line_found`).
-- Assumes nothing.
use Rattle.std.proofs.Common.{refl, arith}
use Rattle.names.specs.Laws.{way_range}
use Rattle.line.proofs.Found.{line_found}
use Rattle.line.proofs.quick.read.Goals as goal

pub returns-clause-told : goal.returns-clause-told
returns-clause-told c =
    let digits = c.digits-number in
    let most = way_range c.in_ok-way_at.field-0 in
    line_found c.args.rest.now digits.result digits.ensures (c.if-not-is_seat.ensures refl) (omega arith)
    c.number-way.result _ _ (omega arith) (rw c.number-way.ensures c.in_ok-way_at.ensures) (c.if-not-is_name.ensures refl) c.end_guess-end.result (omega arith)
