-- No table lists a pair twice, so the order of its lines says nothing.
-- Assumes nothing.
use Rattle.std.proofs.Common.{ℕ, ◌+◌, Bool, true, false, cond, ◌&&◌, T, leb, List, [], ◌∷◌}
use Rattle.rules.specs.Tables.{Line, speaks, coordinator_receives_lines, coordinator_sends_lines, participant_receives_lines, participant_sends_lines}
use Rattle.lemmas.specs.Ranges.{each}

abbrev count : List Line → Bool → ℕ → ℕ → ℕ
count [] b m s = 0
count (l ∷ ls) b m s = cond (speaks l b m s) 1 0 + count ls b m s

abbrev once : List Line → Bool
once ls = each (λ m. each (λ s. leb (count ls true m s) 1 && leb (count ls false m s) 1) 0 16) 0 16

pub listed_once : T (once coordinator_receives_lines && once coordinator_sends_lines && once participant_receives_lines && once participant_sends_lines)
listed_once = tt
