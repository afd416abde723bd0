-- What the quick way to read a line looks at, and what it owes.
-- Assumes nothing.
use Rattle.std.specs.Prelude.{◌≡◌, ℕ, zero, suc, ◌+◌, ◌-◌, ◌*◌, ◌≤◌, true, List, [], ◌∷◌, ◌++◌, Option, Some, None, length, take, drop, replicate, slice_index_or, slice_set}
use Rattle.records.specs.Records.{placed}
use Rattle.names.specs.Names.{message_names, way_name, name_of}
use Rattle.line.specs.Grammar.{newline, space, line_most, index_of, all_digits, value, is_seat, Good, line_of}
use Rattle.line.specs.declared.Number.{Number}
use Rattle.line.specs.declared.quick.Found.{Found}

-- a byte that is in no name
abbrev filler : ℕ
filler = 255

-- a message's row: its name, the newline, and in the last of sixteen bytes how many letters the name has
abbrev row : List ℕ → List ℕ
row name = name ++ newline ∷ replicate (14 - length name) filler ++ length name ∷ []

-- the rows of names, one after the other
abbrev rows : List (List ℕ) → List ℕ
rows [] = []
rows (n ∷ ns) = row n ++ rows ns

-- which message to guess: a wrong number here costs time and no more
abbrev pub guesses : List ℕ
guesses = 7 ∷ 1 ∷ 0 ∷ 0 ∷ 0 ∷ 0 ∷ 0 ∷ 0 ∷ 0 ∷ 0 ∷ 0 ∷ 0 ∷ 3 ∷ 10 ∷ 0 ∷ 0 ∷ 0 ∷ 13 ∷ 5 ∷ 4 ∷ 12 ∷ 2 ∷ 0 ∷ 0 ∷ 0 ∷ 0 ∷ 6 ∷ 11 ∷ 8 ∷ 9 ∷ 0 ∷ 14 ∷ []

-- rows 0 to 15, of which 0 and 15 are no message's, the guesses, and the masks
unfoldable pub aid_bytes : List ℕ
aid_bytes = replicate 16 filler ++ rows message_names ++ replicate 16 filler ++ guesses ++ replicate 16 255 ++ replicate 16 0

-- a row that is put into an area
unfoldable pub with_row : List ℕ → ℕ → List ℕ → List ℕ
with_row l m name = slice_set (slice_set (placed l (16 * m) name) (16 * m + length name) newline) (16 * m + 15) (length name)

-- the aids while they are made: rows 1 to m are put
unfoldable pub rows_to : ℕ → List ℕ
rows_to zero = replicate 320 filler
rows_to (suc m) = with_row (rows_to m) (suc m) (name_of (suc m))

-- the first bytes are digits that say a value
pub record Digits (l : List ℕ) (x : Number) : Type 0 where
  pub most : x.size ≤ 5
  pub each : all_digits (take x.size l) ≡ true
  pub says : x.value ≡ value 0 (take x.size l)

-- they are a seat, and a space stands behind it
pub record SeatAt (l : List ℕ) (x : Number) : Type 0 where
  pub seat : is_seat (take x.size l) ≡ true
  pub behind : slice_index_or l x.size 0 ≡ space

-- a way stands at a place, with a space behind it
pub record WayAt (l : List ℕ) (at way : ℕ) : Type 0 where
  pub most : way ≤ 2
  pub stands : way ≤ 1 → drop at l ≡ way_name way ++ space ∷ drop (at + 4 + way) l

-- a message's name of so many letters stands at a place, with the newline behind it
pub record NameAt (l : List ℕ) (at message letters : ℕ) : Type 0 where
  pub some : 1 ≤ message
  pub known : message ≤ 14
  pub size : length (name_of message) ≡ letters
  pub stands : drop at l ≡ name_of message ++ newline ∷ drop (at + letters + 1) l

-- what was read is what the line says and where it ends; of a line that was not read nothing is said
abbrev pub Told : List ℕ → Option Found → Type 0
Told l (Some f) = (line_of l ≡ Good f.event) × (index_of newline (take line_most l) ≡ f.size)
Told l None = Unit {0}
