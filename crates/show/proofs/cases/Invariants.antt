-- The invariant of `show::cases`, which has 1,000,000 cases at most: what ends in a state from here on ends in it from the first case on.
-- Assumes nothing.
use Rattle.std.proofs.Common.{◌-◌}
use Rattle.show.specs.Cases.{Worked}
use Rattle.show.proofs.cases.Given as goal

abbrev pub invariant-loop-n : goal.invariant-loop-n
invariant-loop-n g l =
    goal.F-IsAlwaysCallable g l.case
    × ((last : _) → Worked (goal.F-step g) l.case l.n (1000001 - l.n) last → Worked (goal.F-step g) l.fn.case 1 1000000 last)
