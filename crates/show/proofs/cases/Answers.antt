-- `show::cases` meets its contract: each case is worked before those that follow.
-- Assumes nothing.
use Rattle.std.proofs.Common.{arith, of_calls, ◌+◌, ◌-◌}
use Rattle.show.proofs.Working.{worked_before, worked_last, worked_all}
use Rattle.show.proofs.cases.Goals as goal

pub returns-in_default : goal.returns-in_default
returns-in_default g c =
    let l = c.loop-n in
    (c.case.new.self, l.invariant.1 _ (worked_last _ _ _ l.n (1000000 - l.n) _ _ (omega arith) c.in_default.is c.case.ensures))

pub loop-n-preserved : goal.loop-n-preserved
loop-n-preserved g c =
    let l = c.loop-n in
    let m = 1000001 - (l.n + 1) in
    (search of_calls, λ last w. l.invariant.1 last (worked_before _ _ _ last l.n m _ _ _ (omega arith) c.in-Some.is c.case.ensures w))

pub returns : goal.returns
returns g c =
    let l = c.loop-n in
    (l.case, l.invariant.1 _ (worked_all _ _ _ _ (omega arith)))
