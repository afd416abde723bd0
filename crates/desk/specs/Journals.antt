-- What the desk makes of a journal's reading, and of a run on a good book.
-- The argument: an event that a line says has a seat of 16 bits, so its record reads back as that event; there is room for 4,096, so
-- the run takes them all; and a run changes no count of the book. What it lists then is in proofs/Listed.antt.
-- Assumes nothing.
use Rattle.std.specs.Prelude.{ℕ, suc, ◌+◌, ◌*◌, ◌/◌, ◌%◌, ◌≤◌, ◌<◌, ◌≡◌, refl, Bool, true, false, cond, List, [], ◌∷◌, ◌++◌, ltb, length, take, drop}
use Rattle.std.proofs.Common.{arith, sym, ap, ◌∙◌, length-append, length-drop, take_at}
use Rattle.records.specs.declared.Event.{Event}
use Rattle.records.specs.Records.{at16, flat, event_at, events_of, event_bytes}
use Rattle.records.specs.Laws.{length_flat}
use Rattle.book.specs.Layout.{activity_count, seat_count, Shaped}
use Rattle.book.specs.Book.{book_refusal}
use Rattle.book.specs.Good.{Good, shaped}
use Rattle.book.proofs.Chain.{good_of}
use Rattle.run.specs.Step.{book_after}
use Rattle.run.specs.Run.{after, run_book}
use Rattle.run.specs.Kept.{step_good, run_good}
use Rattle.demands.specs.Bytes.{events_joined}
use Rattle.demands.specs.Neighbours.{after_acts, after_seats, after_length}
use Rattle.demands.specs.Whole.{Ready, good_book}
use Rattle.line.specs.Laws.{Sound, Judged as LineJudged, line_judged}
use Rattle.line.specs.Grammar.{line_of, Line, Good as GoodLine, Refused}
use Rattle.journal.specs.Journal.{Reading, lines, has_room, roomed, Outcome, events, refused, on_line, lines_from, outcome, events_in, reading_of, reading, area_after}
use Rattle.journal.specs.Laws.{has_room_lem}
use Rattle.text.specs.Text.{number_most}
use Rattle.desk.specs.Desk.{records_most}

-- events that lines say
abbrev pub Sounds : List Event → Type 0
Sounds [] = Unit {0}
Sounds (e ∷ es) = Sound e × Sounds es

-- what a text gives: such events, or a number that is not 0 and a line of at most five digits
abbrev pub Told : Outcome → Type 0
Told (events es) = Sounds es
Told (refused number n) = (1 ≤ number) × (n < number_most)

told_line : (m : ℕ) (b : Bool) (said : Line) (more : Outcome) → LineJudged said → m < number_most → (b ≡ true → Told more) → Told (on_line m (roomed b said) more)
told_line m true (GoodLine e) (events es) j h k = (j, k refl)
told_line m true (GoodLine e) (refused r n) j h k = k refl
told_line m true (Refused r) more j h k = (omega arith, h)
told_line m false (GoodLine e) more j h k = (omega arith, h)
told_line m false (Refused r) more j h k = (omega arith, h)

told_lines : (area n : ℕ) (ls : List (List ℕ)) → n ≤ 4096 → Told (lines_from area n ls)
told_lines area n [] h = tt
told_lines area n (l ∷ ls) h =
    told_line (suc n) (has_room area n) (line_of l) (lines_from area (suc n) ls) (line_judged l) (omega arith)
    (λ r. told_lines area (suc n) ls (has_room_lem area n r).0)

told_text : (b : Bool) (o : Outcome) → Told o → Told (cond b (refused 26 0) o)
told_text true o t = (omega arith, omega arith)
told_text false o t = t

pub told : (text : List ℕ) (area : ℕ) → Told (outcome text area)
unfolding outcome
told text area = told_text (ltb 65536 (length text)) (lines_from area 0 (lines text)) (told_lines area 0 (lines text) (omega arith))

-- the records of such events read back
event_back : (e : Event) → Sound e → events_of (event_bytes e) ≡ e ∷ []
unfolding event_at at16
event_back e s =
    let z : e.seat % 256 + 256 * (e.seat / 256 % 256) ≡ e.seat = omega (arith, s.seat) in
    ap (λ (n : ℕ). record { seat = n; way = e.way; message = e.message } ∷ []) z

pub events_back : (es : List Event) → Sounds es → events_of (flat event_bytes es) ≡ es
events_back [] s = refl
events_back (e ∷ es) (s, t) = events_joined (event_bytes e) (flat event_bytes es) refl ∙ (λ j. event_back e s j ++ events_back es t j)

-- a reading that is refused
refused_of : (o : Outcome) (r : Reading) → r ≡ reading_of o → Told o → (r.refusal ≡ 0 → ⊥) → (o ≡ refused r.refusal r.line) × (r.line < number_most)
refused_of (events es) r is t ne = absurd (ne (ap (λ (x : Reading). x.refusal) is))
refused_of (refused number n) r is t ne = (sym (λ j. refused (is j).refusal (is j).line), omega (arith, ap (λ (x : Reading). x.line) is))

pub read_refused : (text text' : List ℕ) (area : ℕ) (r : Reading) → text' ≡ text → records_most ≡ area → r ≡ reading text' area → (r.refusal ≡ 0 → ⊥)
    → (outcome text records_most ≡ refused r.refusal r.line) × (r.line < number_most)
unfolding reading
read_refused text text' area r e q is ne =
    refused_of (outcome text records_most) r (is ∙ (λ j. reading (e j) (sym q j))) (told text records_most) ne

-- a good reading: the events of the text, and their records at the front of an area that keeps its length
pub record Taken (text : List ℕ) (n : ℕ) (ev : List ℕ) : Type 0 where
  pub es : List Event
  pub is : outcome text records_most ≡ events es
  pub back : events_of ev ≡ es
  pub size : length ev ≡ 4 * n
  pub room : 4 * n ≤ records_most

taken_of : (text : List ℕ) (o : Outcome) (r : Reading) (kept kept' : List ℕ) → outcome text records_most ≡ o → r ≡ reading_of o → Told o → r.refusal ≡ 0
    → records_most ≡ length kept → length kept' ≡ length kept → kept' ≡ flat event_bytes (events_in o) ++ drop (4 * length (events_in o)) kept
    → Taken text r.count (take (4 * r.count) kept')
taken_of text (refused number n) r kept kept' w is t z m l q = absurd (omega (arith, z, ap (λ (x : Reading). x.refusal) is))
taken_of text (events es) r kept kept' w is t z m l q =
    let n : length es ≡ r.count = sym (ap (λ (x : Reading). x.count) is) in
    let f : length (flat event_bytes es) ≡ 4 * r.count = length_flat event_bytes 4 (λ e. refl) es ∙ ap (λ (k : ℕ). 4 * k) n in
    let p : take (4 * r.count) kept' ≡ flat event_bytes es = ap (take (4 * r.count)) q ∙ take_at (flat event_bytes es) (drop (4 * length es) kept) (4 * r.count) f in
    record {
      es = es;
      is = w;
      back = ap events_of p ∙ events_back es t;
      size = ap length p ∙ f;
      room = omega (arith, l, ap length q, length-append (flat event_bytes es) (drop (4 * length es) kept), length-drop (4 * length es) kept);
    }

pub read_taken : (text text' : List ℕ) (r : Reading) (kept kept' : List ℕ) → text' ≡ text → records_most ≡ length kept → r ≡ reading text' (length kept)
    → kept' ≡ area_after text' kept → length kept' ≡ length kept → r.refusal ≡ 0 → Taken text r.count (take (4 * r.count) kept')
unfolding reading area_after
read_taken text text' r kept kept' e m is q l z =
    let o : outcome text records_most ≡ outcome text' (length kept) = λ j. outcome (sym e j) (m j) in
    taken_of text (outcome text' (length kept)) r kept kept' o is (told text' (length kept)) z m l q

-- a run leaves the counts and the length
pub run_counts : (b : List ℕ) (es : List Event) → Good b → (activity_count (after b es) ≡ activity_count b) × (seat_count (after b es) ≡ seat_count b) × (length (after b es) ≡ length b)
run_counts b [] g = (refl, refl, refl)
run_counts b (e ∷ es) g =
    let r = run_counts (book_after b e) es (step_good b e g) in
    (r.0 ∙ after_acts b e g, r.1 ∙ after_seats b e g, r.2 ∙ after_length b e g)

-- a good book, and whole events in an area of 4,096
module _ (b ev area : List ℕ) (good : book_refusal b ≡ 0) (whole : length ev % 4 ≡ 0) (few : length ev ≤ records_most) (room : records_most ≡ length area) where
  pub ready : Ready b ev area
  ready = record { good = good; whole = whole; few = omega arith; room = omega arith }

  pub run_shaped : Shaped (run_book b ev area)
  run_shaped = rw (good_book b ev area ready) (shaped _ (run_good b (events_of ev) (good_of b good)).head)

  pub run_after : {b' : List ℕ} → b' ≡ run_book b ev area → b' ≡ after b (events_of ev)
  run_after e = e ∙ good_book b ev area ready
