-- The invariant of `show::adler32`: the whole part's sum is that of what is left, after the two sums so far.
-- Assumes nothing.
use Rattle.std.proofs.Common.{drop, ◌<◌, ◌≡◌}
use Rattle.show.specs.Adler.{adler, adler_from}
use Rattle.show.proofs.adler32.Given as goal

abbrev pub invariant-loop-x : goal.invariant-loop-x
invariant-loop-x l = (l.low < 65521) × (l.high < 65521) × (adler l.part ≡ adler_from l.low l.high (drop l.x-index l.part))
