-- Demand 1 and demand 2 for journals. `journal::read` returns `reading` and leaves `area_after`, for every text: that is its contract.
-- Here stands what follows from it.
-- The argument: the grammar tries its tests in the order of the numbers, so what it refuses is the first that applies; a text is
-- refused by its first refused line.
-- Assumes nothing.
use Rattle.std.specs.Prelude.{ℕ, suc, ◌*◌, ◌+◌, ◌≤◌, ◌<◌, ◌≡◌, refl, Bool, true, false, cond, not, ◌&&◌, ◌||◌, ◌≢◌, eqb, leb, ltb, length, take, drop}
use Rattle.std.proofs.Common.{arith, sym, ap, ◌∙◌, ne_eqb, le-leb}
use mathlib.Core.List.{List, [], ◌∷◌, ◌++◌}
use Rattle.lemmas.specs.Walks.{every}
use Rattle.records.specs.declared.Event.{Event}
use Rattle.records.specs.Records.{at16, flat, event_at, event_bytes, events_of}
use Rattle.names.specs.Names.{bytes, message_names, way_names, same, named, look, message_named, way_named}
use Rattle.line.specs.Grammar.{newline, space, line_most, index_of, has, before, after, is_seat, value, third_of, second_of, fields_of, line_of, Line, Good, Refused}
use Rattle.line.specs.Laws.{Sound, Judged, line_judged}
use Rattle.journal.specs.Journal.{Reading, lines, has_room, roomed, refusal_of, Outcome, events, refused, on_line, lines_from, outcome, events_in, reading_of, reading, area_after}
use Rattle.journal.specs.Laws.{roomed_refused}
use Rattle.journal.specs.Theorems.{newlines, Numbered, numbered, one_answer, refused_nothing, good_count}
use Rattle.spelled.specs.Spelled.{spelled, good_line, only_line}
use Rattle.spelled.specs.Texts.{Journal, good_text, only_text}
use Rattle.rules.specs.Cases.{marked}
use Rattle.rules.specs.Rules.{has_state, last_state}
use Rattle.rules.specs.Outcome.{needed_by, suits}
use Rattle.book.specs.Layout.{activity_of, seat_of}
use Rattle.book.specs.Book.{numbers_good, head_good, activity_good, activities_good, seat_good, seats_good, agrees, agrees_at, directions_good, book_refusal}
use Rattle.run.specs.Run.{after as ran, answers, run_book, run_answers}
use Rattle.demands.specs.Groups.{first_answers}
use Rattle.demands.specs.Whole.{Ready, good_book, good_area}
use Rattle.demands.specs.Cases.{example_book, example_events, example_prints, all_hold, example_ends}
use Rattle.demands.specs.Firsts.{Test, test, first, First, given, only_then}

-- l is one of the words
abbrev pub one_of : List (List ℕ) → List ℕ → Bool
one_of [] l = false
one_of (w ∷ ws) l = same l w || one_of ws l

-- a line up to its newline, what stands after its first space, and what stands after its second
abbrev pub body : List ℕ → List ℕ
body l = before newline l

abbrev pub second : List ℕ → List ℕ
second l = after space (body l)

abbrev pub third : List ℕ → List ℕ
third l = after space (second l)

-- Demand 1. The tests of a line, after n good ones: no newline in its first 26 bytes; the bytes before its first space are no seat's
-- number, or there is no space; the second field is not `got` or `sent`, or there is no second space; the rest is no name; no room
abbrev pub line_tests : ℕ → ℕ → List ℕ → List Test
line_tests area n l =
    test 21 (not (has newline (take line_most l)))
    ∷ test 22 (not (is_seat (before space (body l))) || not (has space (body l)))
    ∷ test 23 (not (one_of way_names (before space (second l))) || not (has space (second l)))
    ∷ test 24 (not (one_of message_names (third l)))
    ∷ test 25 (not (has_room area n))
    ∷ []

-- a test that each word's number passes, and the number for none does not, says whether l is one of the words
module _ (p : ℕ → Bool) (none : ℕ) (l : List ℕ) (fails : p none ≡ false) where
  found_step : (t : Bool) (k m : ℕ) (o : Bool) → p k ≡ true → p m ≡ o → p (cond t k m) ≡ (t || o)
  found_step true k m o h e = h
  found_step false k m o h e = e

  found : (ws : List (List ℕ)) (k : ℕ) → ((i : ℕ) → k ≤ i → i < k + length ws → p i ≡ true) → p (look none l ws k) ≡ one_of ws l
  unfolding named
  found [] k h = fails
  found (w ∷ ws) k h =
      found_step (same l w) k (look none l ws (suc k)) (one_of ws l) (h k (omega arith) (omega arith))
      (found ws (suc k) (λ i q r. h i (omega arith) (omega arith)))

-- so the number of a way tells `got` and `sent` from all else, and the number of a name the fourteen names
way_found : (l : List ℕ) → leb (way_named l) 1 ≡ one_of way_names l
way_found l = found (λ i. leb i 1) 2 l refl way_names 0 (λ i q r. le-leb i 1 (omega arith))

name_found : (l : List ℕ) → not (eqb (message_named l) 0) ≡ one_of message_names l
name_found l = found (λ i. not (eqb i 0)) 0 l refl message_names 1 (λ i q r. ap not (ne_eqb i 0 (λ z. omega arith)))

-- one of two things is wrong where not both are right
not_both : (a b : Bool) → not (a && b) ≡ (not b || not a)
not_both true true = refl
not_both true false = refl
not_both false true = refl
not_both false false = refl

-- a line is refused by the first of its tests that applies ..
pub line_refuses : (area n : ℕ) (l : List ℕ) → refusal_of (roomed (has_room area n) (line_of l)) ≡ first (line_tests area n l)
unfolding line_of fields_of second_of third_of
line_refuses area n l =
    at (has newline (take line_most l)) (has space (body l) && is_seat (before space (body l)))
    (has space (second l) && leb (way_named (before space (second l))) 1) (eqb (message_named (third l)) 0) (has_room area n)
    (record { seat = value 0 (before space (body l)); way = way_named (before space (second l)); message = message_named (third l) })
    ∙ (λ j.
    cond (not (has newline (take line_most l))) 21
    (cond (not_both (has space (body l)) (is_seat (before space (body l))) j) 22
    (cond (way j) 23 (cond (not (name_found (third l) j)) 24 (cond (not (has_room area n)) 25 0)))))
  where
    at : (a b c d r : Bool) (e : Event)
        → refusal_of (roomed r (cond a (cond b (cond c (cond d (Refused 24) (Good e)) (Refused 23)) (Refused 22)) (Refused 21)))
        ≡ cond (not a) 21 (cond (not b) 22 (cond (not c) 23 (cond (not (not d)) 24 (cond (not r) 25 0))))
    at false b c d r e = ap refusal_of (roomed_refused r 21)
    at true false c d r e = ap refusal_of (roomed_refused r 22)
    at true true false d r e = ap refusal_of (roomed_refused r 23)
    at true true true true r e = ap refusal_of (roomed_refused r 24)
    at true true true false true e = refl
    at true true true false false e = refl

    way : not (has space (second l) && leb (way_named (before space (second l))) 1)
        ≡ (not (one_of way_names (before space (second l))) || not (has space (second l)))
    way =
        not_both (has space (second l)) (leb (way_named (before space (second l))) 1)
        ∙ ap (λ (t : Bool). not t || not (has space (second l))) (way_found (before space (second l)))

-- .. and by a number exactly where that test applies and no earlier one does
pub line_exactly : (area n : ℕ) (l : List ℕ) (r : ℕ) → r ≢ 0 → refusal_of (roomed (has_room area n) (line_of l)) ≡ r → First (line_tests area n l) r
line_exactly area n l r nz e = only_then (line_tests area n l) r (sym (line_refuses area n l) ∙ e) nz

pub line_given : (area n : ℕ) (l : List ℕ) (r : ℕ) → First (line_tests area n l) r → refusal_of (roomed (has_room area n) (line_of l)) ≡ r
line_given area n l r f = line_refuses area n l ∙ given (line_tests area n l) r f

-- The tests of a text: 26 of the whole, then those of its lines, line by line
abbrev pub lines_tests : ℕ → ℕ → List (List ℕ) → List Test
lines_tests area n [] = []
lines_tests area n (l ∷ ls) = line_tests area n l ++ lines_tests area (suc n) ls

abbrev pub text_tests : List ℕ → ℕ → List Test
text_tests text area = test 26 (ltb 65536 (length text)) ∷ lines_tests area 0 (lines text)

-- and those that give the number of the line: 0 of the whole text, and else that of the first line that one of its tests refuses
abbrev pub places_tests : ℕ → ℕ → List (List ℕ) → List Test
places_tests area n [] = []
places_tests area n (l ∷ ls) = test (suc n) (not (eqb (first (line_tests area n l)) 0)) ∷ places_tests area (suc n) ls

abbrev pub place_tests : List ℕ → ℕ → List Test
place_tests text area = test 0 (ltb 65536 (length text)) ∷ places_tests area 0 (lines text)

-- a refused line decides the answer, and any other leaves it to the lines after it
record Decides (m : ℕ) (said : Line) (more : Outcome) : Type 0 where
  pub number : (reading_of (on_line m said more)).refusal ≡ cond (eqb (refusal_of said) 0) (reading_of more).refusal (refusal_of said)
  pub place : (reading_of (on_line m said more)).line ≡ cond (not (eqb (refusal_of said) 0)) m (reading_of more).line

-- that is so of a refused line, and of each line, with room or without
decides_refused : (m r : ℕ) (more : Outcome) → 21 ≤ r → Decides m (Refused r) more
decides_refused m r more h = let z = ne_eqb r 0 (λ q. omega arith) in record { number = sym (rw z); place = sym (rw z) }

decides : (m : ℕ) (b : Bool) (said : Line) (more : Outcome) → Judged said → Decides m (roomed b said) more
decides m true (Good e) (events es) j = record { number = refl; place = refl }
decides m true (Good e) (refused r n) j = record { number = refl; place = refl }
decides m true (Refused r) more j = decides_refused m r more j.0
decides m false (Good e) more j = record { number = refl; place = refl }
decides m false (Refused r) more j = decides_refused m r more j.0

-- a line's tests decide, and where none applies the tests that follow do
tests_on : (area n : ℕ) (l : List ℕ) (ts : List Test)
    → first (line_tests area n l ++ ts) ≡ cond (eqb (first (line_tests area n l)) 0) (first ts) (first (line_tests area n l))
tests_on area n l ts =
    at (has newline (take line_most l)) (not (is_seat (before space (body l))) || not (has space (body l)))
    (not (one_of way_names (before space (second l))) || not (has space (second l))) (one_of message_names (third l)) (has_room area n) (first ts)
  where
    at : (a b c d e : Bool) (k : ℕ)
        → cond (not a) 21 (cond b 22 (cond c 23 (cond (not d) 24 (cond (not e) 25 k))))
        ≡ cond (eqb (cond (not a) 21 (cond b 22 (cond c 23 (cond (not d) 24 (cond (not e) 25 0))))) 0) k
        (cond (not a) 21 (cond b 22 (cond c 23 (cond (not d) 24 (cond (not e) 25 0)))))
    at false b c d e k = refl
    at true true c d e k = refl
    at true false true d e k = refl
    at true false false false e k = refl
    at true false false true false k = refl
    at true false false true true k = refl

-- the number of a refusal and its line are as the lines' tests say
lines_refuse : (area n : ℕ) (ls : List (List ℕ))
    → ((reading_of (lines_from area n ls)).refusal ≡ first (lines_tests area n ls)) × ((reading_of (lines_from area n ls)).line ≡ first (places_tests area n ls))
lines_refuse area n [] = (refl, refl)
lines_refuse area n (l ∷ ls) =
    let more = lines_from area (suc n) ls in
    let d = decides (suc n) (has_room area n) (line_of l) more (line_judged l) in
    let f = line_refuses area n l in
    let next = lines_refuse area (suc n) ls in (
      d.number ∙ (λ j. cond (eqb (f j) 0) (next.0 j) (f j)) ∙ sym (tests_on area n l (lines_tests area (suc n) ls)),
      d.place ∙ (λ j. cond (not (eqb (f j) 0)) (suc n) (next.1 j)),
    )

-- 26 comes before the lines, and names line 0
text_refuses : (t : Bool) (o : Outcome) (k m : ℕ) → ((reading_of o).refusal ≡ k) × ((reading_of o).line ≡ m)
    → ((reading_of (cond t (refused 26 0) o)).refusal ≡ cond t 26 k) × ((reading_of (cond t (refused 26 0) o)).line ≡ cond t 0 m)
text_refuses true o k m h = (refl, refl)
text_refuses false o k m h = h

-- what a text returns, by its tests: the number and the line
read_both : (text : List ℕ) (area : ℕ)
    → ((reading text area).refusal ≡ first (text_tests text area)) × ((reading text area).line ≡ first (place_tests text area))
unfolding reading outcome
read_both text area =
    text_refuses (ltb 65536 (length text)) (lines_from area 0 (lines text)) (first (lines_tests area 0 (lines text))) (first (places_tests area 0 (lines text)))
    (lines_refuse area 0 (lines text))

-- a text is refused by the first of its tests that applies ..
pub read_refuses : (text : List ℕ) (area : ℕ) → (reading text area).refusal ≡ first (text_tests text area)
read_refuses text area = (read_both text area).0

-- .. by a number exactly where that test applies and no earlier one does
pub read_exactly : (text : List ℕ) (area r : ℕ) → r ≢ 0 → (reading text area).refusal ≡ r → First (text_tests text area) r
read_exactly text area r nz e = only_then (text_tests text area) r (sym (read_refuses text area) ∙ e) nz

pub read_given : (text : List ℕ) (area r : ℕ) → First (text_tests text area) r → (reading text area).refusal ≡ r
read_given text area r f = read_refuses text area ∙ given (text_tests text area) r f

-- the line that is named is exactly the first that one of its tests refuses, and 0 where there is none
pub place_first : (text : List ℕ) (area : ℕ) → (reading text area).line ≡ first (place_tests text area)
place_first text area = (read_both text area).1

pub place_exactly : (text : List ℕ) (area n : ℕ) → n ≢ 0 → (reading text area).line ≡ n → First (place_tests text area) n
place_exactly text area n nz e = only_then (place_tests text area) n (sym (place_first text area) ∙ e) nz

pub place_given : (text : List ℕ) (area n : ℕ) → First (place_tests text area) n → (reading text area).line ≡ n
place_given text area n f = place_first text area ∙ given (place_tests text area) n f

-- a refusal counts no event ..
count_none : (o : Outcome) → (reading_of o).refusal ≢ 0 → (reading_of o).count ≡ 0
count_none (events es) h = absurd (h refl)
count_none (refused r n) h = refl

pub refused_count : (text : List ℕ) (area : ℕ) → (reading text area).refusal ≢ 0 → (reading text area).count ≡ 0
unfolding reading
refused_count text area h = count_none (outcome text area) h

-- .. and changes no byte
pub refused_read : (text area : List ℕ) → (reading text (length area)).refusal ≢ 0 → area_after text area ≡ area
refused_read = refused_nothing

-- the contract of `journal::read` allows one answer, numbers and bytes
pub read_single : (text area : List ℕ) (r r' : Reading) (a a' : List ℕ)
    → r ≡ reading text (length area) → a ≡ area_after text area → r' ≡ reading text (length area) → a' ≡ area_after text area
    → (r ≡ r') × (a ≡ a')
read_single = one_answer

-- Demand 2. An event's spelling in 01's words is read as that event, whatever follows it, and a line that is read as an event is its
-- spelling: no leading zero, no other number, no other word
pub line_reads : (e : Event) → Sound e → (rest : List ℕ) → line_of (spelled e ++ rest) ≡ Good e
line_reads = good_line

pub line_only : (l : List ℕ) (e : Event) → line_of l ≡ Good e → Sound e × (take (suc (index_of newline l)) l ≡ spelled e)
line_only = only_line

-- a text that is a journal of events is read: 0, line 0, their count, their records from the start of the area, and the rest of it
pub journal_read : (text area : List ℕ) (es : List Event) → Journal text (length area) es
    → (reading text (length area) ≡ record { refusal = 0; line = 0; count = length es })
    × (area_after text area ≡ flat event_bytes es ++ drop (4 * length es) area)
unfolding reading area_after
journal_read text area es j =
    let o = good_text text (length area) es j in
    (ap reading_of o, ap (λ (w : Outcome). flat event_bytes (events_in w) ++ drop (4 * length (events_in w)) area) o)

-- and a text that is read is a journal of some events
pub read_journal : (text : List ℕ) (area : ℕ) → (reading text area).refusal ≡ 0 → (es : List Event) × Journal text area es
unfolding reading
read_journal text area = at (outcome text area) refl (numbered text area) where
  at : (o : Outcome) → outcome text area ≡ o → Numbered o → (reading_of o).refusal ≡ 0 → (es : List Event) × Journal text area es
  at (events es) q n h = (es, only_text text area es q)
  at (refused r m) q n h = absurd (omega (arith, n.0))

-- its count is that of the text's lines
pub read_count : (text : List ℕ) (area : ℕ) → (reading text area).refusal ≡ 0 → (reading text area).count ≡ newlines text
read_count = good_count

-- The outline's example: its six lines are read as its six events, into an area of their size or more ..
abbrev pub example_text : List ℕ
example_text = bytes "0 sent Close\n1 sent Compensate\n1 sent Close\n0 got Fail\n1 got Closed\n2 sent Close\n"

pub example_read : outcome example_text 24 ≡ events example_events
unfolding outcome line_of fields_of is_seat second_of third_of named has_room
example_read = refl

pub example_journal : (area : ℕ) → 24 ≤ area → Journal example_text area example_events
example_journal area h =
    let j = only_text example_text 24 example_events example_read in
    record { sound = j.sound; bytes = j.bytes; short = j.short; few = j.few; room = h }

-- .. its book is good, and the records of the events are read as the events ..
pub example_good : book_refusal example_book ≡ 0
unfolding book_refusal numbers_good head_good activity_good activities_good seat_good seats_good agrees agrees_at directions_good every at16 activity_of seat_of has_state last_state needed_by suits
example_good = refl

abbrev pub example_records : List ℕ
example_records = flat event_bytes example_events

example_events_lem : events_of example_records ≡ example_events
unfolding event_at at16
example_events_lem = refl

-- .. so their run is ready, and leaves the book and the answers that the outline prints
pub example_ready : (area : List ℕ) → 24 ≤ length area → Ready example_book example_records area
example_ready area h = record { good = example_good; whole = refl; few = omega arith; room = h }

module _ (area : List ℕ) (h : 24 ≤ length area) where
  -- the seats end in 6 and 12, and the activity is directed to close
  pub example_book_lem : run_book example_book example_records area ≡ 1 ∷ 0 ∷ 2 ∷ 0 ∷ 8 ∷ 0 ∷ 10 ∷ 0 ∷ 1 ∷ 1 ∷ 0 ∷ 1 ∷ 2 ∷ 6 ∷ 0 ∷ 1 ∷ 2 ∷ 12 ∷ []
  example_book_lem = good_book example_book example_records area (example_ready area h) ∙ ap (ran example_book) example_events_lem ∙ example_ends

  -- the six answers
  pub example_answers : first_answers 6 (run_answers example_book example_records area) ≡ example_prints
  example_answers =
      good_area example_book example_records area (example_ready area h) ∙ ap (answers example_book) example_events_lem ∙ ap (drop (length marked)) all_hold
