-- `line::quick::is_name` meets its contract: the words that were compared are those of the name and of its row.
-- Assumes nothing.
use Rattle.std.proofs.Common.{arith}
use Rattle.line.proofs.Found.{name_found}
use Rattle.line.proofs.quick.is_name.Goals as goal

pub returns : goal.returns
returns c s =
    let a = c.args in
    let low = c.u64_at-low in
    let high = c.u64_at-high in
    name_found a.rest.now a.aids.bytes.now a.at a.message a.letters a.aids.known (λ k. (c.type_inv.rest k).fits)
    (omega arith) (omega arith) (omega arith)
    low.result high.result low.ensures high.ensures _ _ _ _ c.u64_at.ensures c.u64_at-2.ensures c.u64_at-3.ensures c.u64_at-4.ensures
    c.if-aids-row.false s
