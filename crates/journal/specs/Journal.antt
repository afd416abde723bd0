-- A journal, as 01 has it under 'Journal lines': a text is its lines, each line says an event or a refusal, and the text gives
-- the events of all its lines or the first refusal with its line's number.
-- Assumes nothing.
use Rattle.std.specs.Prelude.{Result, Ok, Err, MatchResult, ℕ, suc, ◌+◌, ◌*◌, ◌≤◌, ◌≡◌, Bool, true, false, ◌&&◌, cond, List, [], ◌∷◌, ◌++◌, eqb, leb, ltb, length, take, drop}
use Rattle.records.specs.Records.{flat, event_bytes}
use Rattle.records.specs.declared.Event.{Event}
use Rattle.line.specs.Grammar.{newline, line_of, Line, Good, Refused, number as line_number}
use Rattle.journal.specs.declared.Refusal.{Refusal}
use Rattle.journal.specs.declared.Refusal.TheVariants.{Line as OfLine, Room, TextLong}
use Rattle.journal.specs.declared.Refused.{Refused as Refusing}

-- a byte in front of the first line
abbrev pub longer : ℕ → List (List ℕ) → List (List ℕ)
longer x [] = (x ∷ []) ∷ []
longer x (l ∷ ls) = (x ∷ l) ∷ ls

-- the lines of a text, each with its newline; the last may have none
abbrev pub lines : List ℕ → List (List ℕ)
lines [] = []
lines (x ∷ t) = cond (eqb x newline) ((x ∷ []) ∷ lines t) (longer x (lines t))

-- after n events there is room for one more: four bytes of the area are left, and n is below 4,096
unfoldable pub has_room : ℕ → ℕ → Bool
has_room area n = leb (4 * n + 4) area && ltb n 4096

-- 25: a good line with no room left
abbrev pub roomed : Bool → Line → Line
roomed true said = said
roomed false (Good e) = Refused 25
roomed false (Refused r) = Refused r

-- the number of a line's refusal; 0 of a good line
abbrev pub refusal_of : Line → ℕ
refusal_of (Good e) = 0
refusal_of (Refused r) = r

-- what a text gives: all its events, or a refusal and its line
pub data Outcome : Type 0 where
  events : List Event → Outcome
  refused : ℕ → ℕ → Outcome

-- events in front of what the lines after theirs give
abbrev pub infront : List Event → Outcome → Outcome
infront es (events fs) = events (es ++ fs)
infront es (refused r n) = refused r n

-- line number n, what it says, and what the lines after it give
abbrev pub on_line : ℕ → Line → Outcome → Outcome
on_line n (Good e) more = infront (e ∷ []) more
on_line n (Refused r) more = refused r n

-- line by line, after n good ones
abbrev pub lines_from : ℕ → ℕ → List (List ℕ) → Outcome
lines_from area n [] = events []
lines_from area n (l ∷ ls) = on_line (suc n) (roomed (has_room area n) (line_of l)) (lines_from area (suc n) ls)

-- 26: a text over 65,536 bytes, of no line; then line by line
unfoldable pub outcome : List ℕ → ℕ → Outcome
outcome text area = cond (ltb 65536 (length text)) (refused 26 0) (lines_from area 0 (lines text))

-- what a reading comes to: a refusal's number, its line and the count of events
pub record Reading : Type 0 where
  pub refusal : ℕ
  pub line : ℕ
  pub count : ℕ

-- what the code answers, in these terms
abbrev pub number : Refusal → ℕ
number (OfLine r) = line_number r
number Room = 25
number TextLong = 26

abbrev pub told : Result ℕ Refusing → Reading
told (Ok n) = record { refusal = 0; line = 0; count = n }
told (Err e) = record { refusal = number e.refusal; line = e.line; count = 0 }

-- what becomes of line n by what it says: its event, or its refusal with its number
abbrev pub Answered : Line → ℕ → Result Event Refusing → Type 0
Answered said n r = MatchResult r (λ e. said ≡ Good e) (λ e. (said ≡ Refused (number e.refusal)) × (e.line ≡ n))

-- a refusal has no events
abbrev pub events_in : Outcome → List Event
events_in (events es) = es
events_in (refused r n) = []

-- a good read gives 0, line 0 and its count; a refusal its number, its line and count 0
abbrev pub reading_of : Outcome → Reading
reading_of (events es) = record { refusal = 0; line = 0; count = length es }
reading_of (refused r n) = record { refusal = r; line = n; count = 0 }

unfoldable pub reading : List ℕ → ℕ → Reading
reading text area = reading_of (outcome text area)

-- the records of the events, and the bytes past them as they were
unfoldable pub area_after : List ℕ → List ℕ → List ℕ
area_after text area =
    flat event_bytes (events_in (outcome text (length area))) ++ drop (4 * length (events_in (outcome text (length area)))) area

-- what the reading of the lines owes its caller: the answer, and the records at the front of what is kept
pub record Owed (whole : Outcome) (r : Reading) (kept : List ℕ) (area : ℕ) : Type 0 where
  pub value : r ≡ reading_of whole
  pub records : take (4 * r.count) kept ≡ flat event_bytes (events_in whole)
  pub fits : 4 * r.count ≤ area
  pub within : 4 * r.count ≤ length kept
