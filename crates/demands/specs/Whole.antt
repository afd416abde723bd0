-- What follows from the contract of `run` for whole events and whole runs. Demands.antt states the engine's promises from it.
-- Assumes nothing.
use Rattle.std.specs.Prelude.{◌≡◌, refl, Bool, true, false, cond, not, ◌&&◌, ◌||◌, ◌≢◌, List, [], ◌∷◌, ◌++◌, ℕ, ◌*◌, ◌/◌, ◌%◌, ◌≤◌, ◌<◌, drop, ltb, eqb}
use Rattle.std.proofs.Common.{sym, ap, ◌∙◌, arith, length-append, eq-eqb, ne_eqb, eqb-true, le-ltb, lt-ltb, ltb-false}
use Rattle.std.proofs.Math.Bool.{and-false}
use Rattle.std.proofs.lemmas.Bool.{false≢true, eqb-false}
use Rattle.std.proofs.Math.ListN.{length}
use Rattle.records.specs.declared.Event.{Event}
use Rattle.records.specs.Records.{flat, events_of}
use Rattle.records.specs.Laws.{length_first_events}
use Rattle.rules.specs.declared.Answer.{Answer}
use Rattle.rules.specs.declared.Entry.{Entry}
use Rattle.rules.specs.declared.Entry.TheVariants.{Invalid, Ignore, Move, Forget, Reply}
use Rattle.rules.specs.Rules.{moves, entry_of, answer_of, legal}
use Rattle.rules.specs.Single.{one_result}
use Rattle.book.specs.declared.Activity.{Activity}
use Rattle.book.specs.declared.Seat.{Seat}
use Rattle.book.specs.Layout.{head_size, activity_count, seat_count, activity_of, seat_of, head_of, with_state, with_direction}
use Rattle.book.specs.Book.{head_good, activities_good, seats_good, directions_good, book_refusal}
use Rattle.book.specs.Good.{good_to, seat_in_lem}
use Rattle.book.proofs.Chain.{good_of}
use Rattle.run.specs.Step.{refused, known, ruled, wanted, clashes, turned, judged, lot_of, answer_to, book_after, answer_bytes, outcome_of, turned_book}
use Rattle.run.specs.Run.{after, answers, most_events, run_refusal, run_book, run_answers}
use Rattle.run.specs.Kept.{run_good}
use Rattle.run.specs.Joined.{after_joined, answers_joined, length_answers}
use Rattle.demands.specs.Firsts.{Test, test, first, First, given, only_then}
use Rattle.demands.specs.Groups.{first_answers}
use Rattle.demands.specs.Neighbours.{after_head, after_length, after_seat, after_activity}
use Rattle.demands.specs.OneOutcome.{want, one_outcome}
use Rattle.demands.specs.Bytes.{answers_back, events_joined}

-- Each refusal of a run is given exactly where its test applies and no earlier one does (`given`, `only_then`) ..
abbrev pub run_tests : List ℕ → List ℕ → List ℕ → List Test
run_tests b ev area =
    test 1 (ltb (length b) head_size)
    ∷ test 2 (not (head_good b))
    ∷ test 3 (not (activities_good b))
    ∷ test 4 (not (seats_good b))
    ∷ test 5 (not (directions_good b))
    ∷ test 6 (not (eqb (length ev % 4) 0) || ltb most_events (length ev / 4))
    ∷ test 7 (ltb (length area) (length ev))
    ∷ []

pub run_refuses : (b ev area : List ℕ) → run_refusal b ev area ≡ first (run_tests b ev area)
unfolding run_refusal book_refusal
run_refuses b ev area = at (ltb (length b) head_size) (head_good b) (activities_good b) (seats_good b) (directions_good b) where
  rest : ℕ
  rest = cond (not (eqb (length ev % 4) 0) || ltb most_events (length ev / 4)) 6 (cond (ltb (length area) (length ev)) 7 0)

  at : (l h a s d : Bool)
      → cond (not (eqb (cond l 1 (cond (not h) 2 (cond (not a) 3 (cond (not s) 4 (cond (not d) 5 0))))) 0))
      (cond l 1 (cond (not h) 2 (cond (not a) 3 (cond (not s) 4 (cond (not d) 5 0))))) rest
      ≡ cond l 1 (cond (not h) 2 (cond (not a) 3 (cond (not s) 4 (cond (not d) 5 rest))))
  at true h a s d = refl
  at false false a s d = refl
  at false true false s d = refl
  at false true true false d = refl
  at false true true true false = refl
  at false true true true true = refl

pub run_exactly : (b ev area : List ℕ) (n : ℕ) → n ≢ 0 → run_refusal b ev area ≡ n → First (run_tests b ev area) n
run_exactly b ev area n nz e = only_then (run_tests b ev area) n (sym (run_refuses b ev area) ∙ e) nz

pub run_given : (b ev area : List ℕ) (n : ℕ) → First (run_tests b ev area) n → run_refusal b ev area ≡ n
run_given b ev area n f = run_refuses b ev area ∙ given (run_tests b ev area) n f

-- .. and so is each refusal of an event
abbrev pub event_tests : List ℕ → Event → List Test
event_tests b e =
    test 11 (not (ltb e.seat (seat_count b)))
    ∷ test 12 (not (known e.way e.message))
    ∷ test 13 (not (moves (seat_of b e.seat).role e.way e.message))
    ∷ test 14 (not (legal (entry_of (seat_of b e.seat).role (seat_of b e.seat).table e.way e.message (seat_of b e.seat).state)))
    ∷ test 15 (clashes (lot_of b e.seat).direction (wanted (lot_of b e.seat).kind (seat_of b e.seat).role e.way e.message))
    ∷ []

-- an event's answer by what its tests say and its table's entry
abbrev whole : Bool → Bool → Bool → Entry → Bool → ℕ → Answer
whole t k m x c s =
    cond (not t) (refused 11 0)
    (cond (eqb (cond (not k) (refused 12 s) (cond (not m) (refused 13 s) (answer_of x s))).refusal 0 && c) (refused 15 s)
    (cond (not k) (refused 12 s) (cond (not m) (refused 13 s) (answer_of x s))))

pub event_refuses : (b : List ℕ) (e : Event) → (answer_to b e).refusal ≡ first (event_tests b e)
unfolding answer_to judged ruled outcome_of
event_refuses b e =
    at (ltb e.seat (seat_count b)) (known e.way e.message) (moves (seat_of b e.seat).role e.way e.message)
    (entry_of (seat_of b e.seat).role (seat_of b e.seat).table e.way e.message (seat_of b e.seat).state)
    (clashes (lot_of b e.seat).direction (wanted (lot_of b e.seat).kind (seat_of b e.seat).role e.way e.message))
    (seat_of b e.seat).state
  where
    at : (t k m : Bool) (x : Entry) (c : Bool) (s : ℕ)
        → (whole t k m x c s).refusal ≡ cond (not t) 11 (cond (not k) 12 (cond (not m) 13 (cond (not (legal x)) 14 (cond c 15 0))))
    at false k m x c s = refl
    at true false m x c s = refl
    at true true false x c s = refl
    at true true true Invalid c s = refl
    at true true true Ignore true s = refl
    at true true true Ignore false s = refl
    at true true true (Move n) true s = refl
    at true true true (Move n) false s = refl
    at true true true (Forget n) true s = refl
    at true true true (Forget n) false s = refl
    at true true true (Reply n) true s = refl
    at true true true (Reply n) false s = refl

pub event_exactly : (b : List ℕ) (e : Event) (n : ℕ) → n ≢ 0 → (answer_to b e).refusal ≡ n → First (event_tests b e) n
event_exactly b e n nz h = only_then (event_tests b e) n (sym (event_refuses b e) ∙ h) nz

pub event_given : (b : List ℕ) (e : Event) (n : ℕ) → First (event_tests b e) n → (answer_to b e).refusal ≡ n
event_given b e n f = event_refuses b e ∙ given (event_tests b e) n f

-- a refused event's answer is its number, its seat's state (0 where it names none), 0 and 0
pub refused_answer : (b : List ℕ) (e : Event) → (answer_to b e).refusal ≢ 0
    → answer_to b e ≡ refused (answer_to b e).refusal (cond (ltb e.seat (seat_count b)) (seat_of b e.seat).state 0)
unfolding answer_to judged ruled outcome_of
refused_answer b e =
    at (ltb e.seat (seat_count b)) (known e.way e.message) (moves (seat_of b e.seat).role e.way e.message)
    (entry_of (seat_of b e.seat).role (seat_of b e.seat).table e.way e.message (seat_of b e.seat).state)
    (clashes (lot_of b e.seat).direction (wanted (lot_of b e.seat).kind (seat_of b e.seat).role e.way e.message))
    (seat_of b e.seat).state
  where
    at : (t k m : Bool) (x : Entry) (c : Bool) (s : ℕ) → (whole t k m x c s).refusal ≢ 0 → whole t k m x c s ≡ refused (whole t k m x c s).refusal (cond t s 0)
    at false k m x c s h = refl
    at true false m x c s h = refl
    at true true false x c s h = refl
    at true true true Invalid c s h = refl
    at true true true Ignore true s h = refl
    at true true true Ignore false s h = absurd (h refl)
    at true true true (Move n) true s h = refl
    at true true true (Move n) false s h = absurd (h refl)
    at true true true (Forget n) true s h = refl
    at true true true (Forget n) false s h = absurd (h refl)
    at true true true (Reply n) true s h = refl
    at true true true (Reply n) false s h = absurd (h refl)

-- a refused run changes no byte
pub refused_run : (b ev area : List ℕ) → run_refusal b ev area ≢ 0 → (run_book b ev area ≡ b) × (run_answers b ev area ≡ area)
unfolding run_book run_answers
refused_run b ev area r = let t = ne_eqb (run_refusal b ev area) 0 r in (simp t, simp t)

-- a refused event changes no byte of the book
pub refused_event : (b : List ℕ) (e : Event) → (answer_to b e).refusal ≢ 0 → book_after b e ≡ b
unfolding book_after turned_book
refused_event b e r = simp (ne_eqb (answer_to b e).refusal 0 r)

-- the contract of `run` allows one result, one book and one answer area
pub run_single : (b ev area : List ℕ) (r r' : ℕ) (c c' l l' : List ℕ)
    → (r ≡ run_refusal b ev area) × (c ≡ run_book b ev area) × (l ≡ run_answers b ev area)
    → (r' ≡ run_refusal b ev area) × (c' ≡ run_book b ev area) × (l' ≡ run_answers b ev area)
    → (r ≡ r') × (c ≡ c') × (l ≡ l')
run_single b ev area r r' c c' l l' p q = (one_result p.0 q.0, one_result p.1 q.1, one_result p.2 q.2)

-- A run that is not refused: a good book, whole events, at most 4,096 of them, and room for their answers
pub record Ready (b ev area : List ℕ) : Type 0 where
  pub good : book_refusal b ≡ 0
  pub whole : length ev % 4 ≡ 0
  pub few : length ev / 4 ≤ most_events
  pub room : length ev ≤ length area

pub ready : (b ev area : List ℕ) → Ready b ev area → run_refusal b ev area ≡ 0
unfolding run_refusal
ready b ev area r = simp (eq-eqb _ _ r.good, eq-eqb (length ev % 4) 0 r.whole, le-ltb _ _ r.few, le-ltb _ _ r.room)

pub only_ready : (b ev area : List ℕ) → run_refusal b ev area ≡ 0 → Ready b ev area
unfolding run_refusal
only_ready b ev area h = at (eqb (book_refusal b) 0) refl (eqb (length ev % 4) 0) refl (ltb most_events (length ev / 4)) refl (ltb (length area) (length ev)) refl where
  at : (g : Bool) → eqb (book_refusal b) 0 ≡ g → (w : Bool) → eqb (length ev % 4) 0 ≡ w → (m : Bool) → ltb most_events (length ev / 4) ≡ m
      → (s : Bool) → ltb (length area) (length ev) ≡ s → Ready b ev area
  at false e w f m k s l = absurd (eqb-false _ _ e (simp e at h))
  at true e false f m k s l = absurd (omega (arith, simp (e, f) at h))
  at true e true f true k s l = absurd (omega (arith, simp (e, f, k) at h))
  at true e true f false k true l = absurd (omega (arith, simp (e, f, k, l) at h))
  at true e true f false k false l =
      record { good = eqb-true _ _ e; whole = eqb-true _ _ f; few = ltb-false _ _ k; room = ltb-false _ _ l }

module _ (b ev area : List ℕ) (r : Ready b ev area) where
  -- what a good run leaves: the book after all events, their answers in order from the start of the area, and the rest of the area
  pub good_book : run_book b ev area ≡ after b (events_of ev)
  unfolding run_book
  good_book = simp (eq-eqb _ _ (ready b ev area r))

  pub good_answers : run_answers b ev area ≡ flat answer_bytes (answers b (events_of ev)) ++ drop (length ev) area
  unfolding run_answers
  good_answers =
      let e : 4 * (length ev / 4) ≡ length ev = omega (arith, r.whole) in simp (eq-eqb _ _ (ready b ev area r), e)

  pub good_area : first_answers (length ev / 4) (run_answers b ev area) ≡ answers b (events_of ev)
  good_area =
      let n : length (answers b (events_of ev)) ≡ length ev / 4 = length_answers b (events_of ev) ∙ length_first_events ev (length ev / 4) in
      (λ j. first_answers (sym n j) (good_answers j)) ∙ answers_back (answers b (events_of ev)) (drop (length ev) area)

  -- a good book stays good
  pub stays_good : book_refusal (run_book b ev area) ≡ 0
  stays_good = ap book_refusal good_book ∙ good_to _ (run_good b (events_of ev) (good_of b r.good))

-- An event that no test refuses is answered by its seat's table; the seat goes to the state of that answer and its
-- activity to the direction asked for; every other seat and activity stays
pub record Answered (b : List ℕ) (e : Event) : Type 0 where
  pub seat : e.seat < seat_count b
  pub known : known e.way e.message ≡ true
  pub moves : moves (seat_of b e.seat).role e.way e.message ≡ true
  pub legal : legal (entry_of (seat_of b e.seat).role (seat_of b e.seat).table e.way e.message (seat_of b e.seat).state) ≡ true
  pub calm : clashes (lot_of b e.seat).direction (wanted (lot_of b e.seat).kind (seat_of b e.seat).role e.way e.message) ≡ false

module _ (b : List ℕ) (e : Event) (a : Answered b e) where
  abbrev n : ℕ
  n = e.seat

  abbrev x : Seat
  x = seat_of b e.seat

  abbrev y : Activity
  y = lot_of b e.seat

  -- refusal 0, and the next state, action and reply of the table that the seat names
  pub table_answers : answer_to b e ≡ answer_of (entry_of x.role x.table e.way e.message x.state) x.state
  unfolding answer_to judged ruled outcome_of
  table_answers =
      simp (lt-ltb _ _ a.seat, a.known, a.moves, a.calm, and-false)

  unrefused : eqb (answer_to b e).refusal 0 ≡ true
  unrefused =
      ap (λ (r : Answer). eqb r.refusal 0) table_answers
      ∙ by (entry_of x.role x.table e.way e.message x.state) a.legal
    where
      by : (t : Entry) → legal t ≡ true → eqb (answer_of t (seat_of b e.seat).state).refusal 0 ≡ true
      by Invalid h = absurd (false≢true h)
      by Ignore h = refl
      by (Move s) h = refl
      by (Forget s) h = refl
      by (Reply m) h = refl

  module _ (good : book_refusal b ≡ 0) where
    pub seat_moves : seat_of (book_after b e) n ≡ with_state x (answer_to b e).state
    seat_moves = after_seat b e (good_of b good) n ∙ simp (eq-eqb n n refl, unrefused)

    pub seats_stay : (m : ℕ) → m ≢ n → seat_of (book_after b e) m ≡ seat_of b m
    seats_stay m ne = after_seat b e (good_of b good) m ∙ simp (ne_eqb m n ne)

    -- a legal sent Close (Compensate) of an atomic activity's coordinator sets its direction if that was 0; nothing else sets one
    pub activity_turns : activity_of (book_after b e) x.activity ≡ with_direction y (turned y.direction (wanted y.kind x.role e.way e.message))
    activity_turns =
        let l = seat_in_lem b n (good_of b good).seats a.seat in
        after_activity b e (good_of b good) x.activity l ∙ simp (eq-eqb x.activity x.activity refl, unrefused)

    pub activities_stay : (k : ℕ) → k < activity_count b → k ≢ x.activity → activity_of (book_after b e) k ≡ activity_of b k
    activities_stay k l ne = after_activity b e (good_of b good) k l ∙ simp (ne_eqb k x.activity ne)

-- one outcome: once an atomic activity's coordinator legally sent Close (Compensate), whatever comes between, no legal event of that
-- activity sends the other
pub one_direction : (b : List ℕ) → book_refusal b ≡ 0 → (e : Event) (es : List Event) (f : Event)
    → (answer_to b e).refusal ≡ 0 → want b e ≢ 0
    → (answer_to (after (book_after b e) es) f).refusal ≡ 0 → want (after (book_after b e) es) f ≢ 0
    → (seat_of (after (book_after b e) es) f.seat).activity ≡ (seat_of b e.seat).activity
    → want (after (book_after b e) es) f ≡ want b e
one_direction b good = one_outcome b (good_of b good)

-- no event changes the header or the length
pub header_stays : (b : List ℕ) (e : Event) → book_refusal b ≡ 0 → (head_of (book_after b e) ≡ head_of b) × (length (book_after b e) ≡ length b)
header_stays b e good = (after_head b e (good_of b good), after_length b e (good_of b good))

-- a run of two lists one after the other is the run of the joined list
module _ (b ev ev' area area' whole : List ℕ) (r : Ready b ev area) (r' : Ready b ev' area')
    (few : length (ev ++ ev') / 4 ≤ most_events) (room : length (ev ++ ev') ≤ length whole) where
  joined : Ready b (ev ++ ev') whole
  joined =
      record { good = r.good; whole = omega (arith, length-append ev ev', r.whole, r'.whole); few = few; room = room }

  second : Ready (run_book b ev area) ev' area'
  second = record { good = stays_good b ev area r; whole = r'.whole; few = r'.few; room = r'.room }

  pub joined_book : run_book b (ev ++ ev') whole ≡ run_book (run_book b ev area) ev' area'
  joined_book =
      good_book b (ev ++ ev') whole joined ∙ ap (after b) (events_joined ev ev' r.whole) ∙ after_joined b (events_of ev) (events_of ev')
      ∙ ap (λ (c : List ℕ). after c (events_of ev')) (sym (good_book b ev area r)) ∙ sym (good_book (run_book b ev area) ev' area' second)

  pub joined_answers : first_answers (length (ev ++ ev') / 4) (run_answers b (ev ++ ev') whole)
      ≡ first_answers (length ev / 4) (run_answers b ev area) ++ first_answers (length ev' / 4) (run_answers (run_book b ev area) ev' area')
  joined_answers =
      good_area b (ev ++ ev') whole joined ∙ ap (answers b) (events_joined ev ev' r.whole) ∙ answers_joined b (events_of ev) (events_of ev')
      ∙ sym (λ j. good_area b ev area r j ++ (good_area (run_book b ev area) ev' area' second ∙ ap (λ (c : List ℕ). answers c (events_of ev')) (good_book b ev area r)) j)
