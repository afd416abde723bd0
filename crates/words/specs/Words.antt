-- Bytes as one number, the lowest first.
-- Assumes nothing.
use Rattle.std.specs.Prelude.{ℕ, ◌+◌, ◌*◌, List, [], ◌∷◌, take, drop}

abbrev pub word_of : List ℕ → ℕ
word_of [] = 0
word_of (x ∷ l) = x + 256 * word_of l

-- the eight bytes at a place
unfoldable pub word_at : List ℕ → ℕ → ℕ
word_at l at = word_of (take 8 (drop at l))
