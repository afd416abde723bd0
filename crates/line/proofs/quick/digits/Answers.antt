-- `line::quick::digits` meets its contract: one turn more (the invariant stands beside).
-- Assumes nothing.
use Rattle.std.proofs.Common.{◌≡◌, ◌<◌, get_or, take, arith, get_or-take, length-take}
use Rattle.line.proofs.Runs.{run_on}
use Rattle.line.proofs.quick.digits.Goals as goal

pub loop-byte-preserved : goal.loop-byte-preserved
loop-byte-preserved c =
    let l = c.loop-byte in
    let rest = c.args.rest.now in
    let five : l.byte-index < 5 = omega (arith, length-take 5 rest) in
    let byte : get_or (take 5 rest) l.byte-index 0 ≡ get_or rest l.byte-index 0 = get_or-take 5 rest l.byte-index 0 five in
    run_on rest l.value l.size l.all l.on l.byte-index l.invariant five _ (omega arith) (omega (arith, byte, c.type_inv.rest l.byte-index)) (omega arith)
