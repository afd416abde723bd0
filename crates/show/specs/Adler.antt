-- Adler-32, as zlib defines it: two sums modulo 65,521, the second of the first's values.
-- Assumes nothing.
use Rattle.std.specs.Prelude.{ℕ, ◌+◌, ◌*◌, ◌%◌, List, [], ◌∷◌}

-- the sum of the bytes that are left, after those that gave `low` and `high`
abbrev pub adler_from : ℕ → ℕ → List ℕ → ℕ
adler_from low high [] = high * 65536 + low
adler_from low high (x ∷ l) = adler_from ((low + x) % 65521) ((high + (low + x) % 65521) % 65521) l

unfoldable pub adler : List ℕ → ℕ
adler l = adler_from 1 0 l
