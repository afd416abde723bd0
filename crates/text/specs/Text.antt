-- Numbers in decimal, and what a writer of text leaves in a lent area.
-- Assumes nothing.
use Rattle.std.specs.Prelude.{ℕ, zero, suc, ◌+◌, ◌/◌, ◌%◌, ◌≤◌, ◌≡◌, cond, List, [], ◌∷◌, ◌++◌, ltb, length}
use Rattle.records.specs.Records.{placed}

abbrev pub digit : ℕ → ℕ
digit n = 48 + n

-- the last k digits of a number, with no leading zero
abbrev pub digits : ℕ → ℕ → List ℕ
digits zero n = []
digits (suc k) n = cond (ltb n 10) (digit n ∷ []) (digits k (n / 10) ++ (digit (n % 10) ∷ []))

abbrev pub digits_most : ℕ
digits_most = 5

-- a number below it has at most five digits
abbrev pub number_most : ℕ
number_most = 100000

-- five digits, and the byte that ends their field
abbrev pub field_most : ℕ
field_most = digits_most + 1

-- such a number in decimal: no leading zero, and 0 is one digit
unfoldable pub decimal : ℕ → List ℕ
decimal n = digits digits_most n

-- the text stands in the area from a place on, and ends inside it, at `past`; the bytes before and after stay
pub record Put (area : List ℕ) (at : ℕ) (text area' : List ℕ) (past : ℕ) : Type 0 where
  pub bytes : area' ≡ placed area at text
  pub end : past ≡ at + length text
  pub room : at + length text ≤ length area
