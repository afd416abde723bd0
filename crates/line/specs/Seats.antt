-- The seat that a line begins with, and the place of the space after it.
-- Assumes nothing.
use Rattle.std.specs.Prelude.{position, ◌==◌, ℕ, ◌+◌, cond, ◌&&◌, List, Option, Some, None, nat_le}
use Rattle.line.specs.Grammar.{space, index_of, has, before, all_digits, value, is_seat}
use Rattle.line.specs.declared.Number.{Number}

-- the first place of b in l
unfoldable pub place_in : ℕ → List ℕ → Option ℕ
place_in b l = position (λ x. x == b) l

-- digits that say v, and how many they are
abbrev pub digits_are : ℕ → ℕ → Option Number
digits_are v n = Some (record { value = v; size = n })

-- as the grammar asks for 22
unfoldable pub seat_in : List ℕ → Option Number
seat_in l = cond (has space l && is_seat (before space l)) (digits_are (value 0 (before space l)) (index_of space l)) None

-- after i digits that said n, with no question of how they began
unfoldable pub digits_in : ℕ → ℕ → List ℕ → Option Number
digits_in n i l =
    cond (has space l && (all_digits (before space l) && nat_le (value n (before space l)) 65535))
    (digits_are (value n (before space l)) (i + index_of space l))
    None
