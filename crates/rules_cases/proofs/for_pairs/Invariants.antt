-- What visits a pair may be called for the next one.
-- Assumes nothing.
use Rattle.rules_cases.proofs.for_pairs.Given as goal

abbrev pub invariant-loop-role : goal.invariant-loop-role
invariant-loop-role g l = goal.F-IsAlwaysCallable g l.visit
