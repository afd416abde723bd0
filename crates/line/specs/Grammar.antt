-- The grammar of a journal's line, as 01 has it under 'Journal lines': seat in decimal, one space, `got` or `sent`, one space,
-- a message name, newline. The refusals are tried in the order of their numbers.
-- Assumes nothing.
use Rattle.std.specs.Prelude.{ℕ, Result, Ok, Err, suc, ◌+◌, ◌-◌, ◌*◌, Bool, true, false, cond, not, ◌&&◌, List, [], ◌∷◌, length, take, drop, ◌==◌, nat_le, nat_lt}
use Rattle.names.specs.Names.{message_named, way_named}
use Rattle.records.specs.declared.Event.{Event}
use Rattle.line.specs.declared.Refusal.{Refusal}
use Rattle.line.specs.declared.Refusal.TheVariants.{Long, Seat, Way, Name}

-- what a line says: an event, or the number of its refusal
pub data Line : Type 0 where
  Good : Event → Line
  Refused : ℕ → Line

abbrev pub number : Refusal → ℕ
number Long = 21
number Seat = 22
number Way = 23
number Name = 24

-- what the code answers, in these terms
abbrev pub told : Result Event Refusal → Line
told (Ok e) = Good e
told (Err r) = Refused (number r)

abbrev pub newline : ℕ
newline = 10

abbrev pub space : ℕ
space = 32

-- the longest line, with its newline
abbrev pub line_most : ℕ
line_most = 26

-- the first place of b in l; l's length where it has none
abbrev pub index_of : ℕ → List ℕ → ℕ
index_of b [] = 0
index_of b (x ∷ l) = cond (x == b) 0 (suc (index_of b l))

-- whether b is in l; the bytes before the first b, and those after it
abbrev pub has : ℕ → List ℕ → Bool
has b l = nat_lt (index_of b l) (length l)

abbrev pub before : ℕ → List ℕ → List ℕ
before b l = take (index_of b l) l

abbrev pub after : ℕ → List ℕ → List ℕ
after b l = drop (index_of b l + 1) l

-- a seat in decimal: digits, the first of several not 0, that say a number from 0 to 65,535
abbrev pub is_digit : ℕ → Bool
is_digit x = nat_le 48 x && nat_le x 57

abbrev pub all_digits : List ℕ → Bool
all_digits [] = true
all_digits (x ∷ l) = is_digit x && all_digits l

abbrev pub well_begun : List ℕ → Bool
well_begun [] = false
well_begun (x ∷ []) = true
well_begun (x ∷ y ∷ l) = not (x == 48)

-- the number that digits say, after those that said n
abbrev pub value : ℕ → List ℕ → ℕ
value n [] = n
value n (x ∷ l) = value (n * 10 + (x - 48)) l

unfoldable pub is_seat : List ℕ → Bool
is_seat l = well_begun l && (all_digits l && nat_le (value 0 l) 65535)

-- 24: the rest is no name
unfoldable pub third_of : ℕ → ℕ → List ℕ → Line
third_of seat way l = cond (message_named l == 0) (Refused 24) (Good (record { seat = seat; way = way; message = message_named l }))

-- 23: the second field is not `got` or `sent`, or there is no second space
unfoldable pub second_of : ℕ → List ℕ → Line
second_of seat l =
    cond (has space l && nat_le (way_named (before space l)) 1)
    (third_of seat (way_named (before space l)) (after space l))
    (Refused 23)

-- 22: the bytes before the first space are no such number, or there is no space
unfoldable pub fields_of : List ℕ → Line
fields_of l = cond (has space l && is_seat (before space l)) (second_of (value 0 (before space l)) (after space l)) (Refused 22)

-- 21: no newline in the line's first 26 bytes
unfoldable pub line_of : List ℕ → Line
line_of l = cond (has newline (take line_most l)) (fields_of (before newline l)) (Refused 21)
