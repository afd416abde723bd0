-- An event reads and writes its own seat and its own activity, so two books that agree on a group go on agreeing.
-- The argument: an event's answer is a function of its seat and its seat's activity; what it writes is that seat's state and that
-- activity's direction (`moved`), and the laws of the book say that nothing else changes. The tables are never opened.
-- Assumes nothing.
use Rattle.std.specs.Prelude.{◌≡◌, refl, Bool, true, false, cond, List, ℕ, suc, ◌≤◌, ◌<◌, length, eqb}
use Rattle.std.proofs.Common.{sym, ap, ◌∙◌, ⊎_elim, arith, eq-eqb, ne_eqb, lt-ltb, le-ltb, eqb-true}
use Rattle.std.proofs.lemmas.Bool.{eqb-false}
use Rattle.lemmas.specs.Bools.{cases}
use Rattle.lemmas.specs.Orders.{same_or, below_or}
use Rattle.records.specs.declared.Event.{Event}
use Rattle.rules.specs.declared.Answer.{Answer}
use Rattle.book.specs.declared.Activity.{Activity}
use Rattle.book.specs.declared.Seat.{Seat}
use Rattle.book.specs.Layout.{activity_count, seat_count, activity_of, seat_of, head_of, with_state, with_direction, moved, Shaped}
use Rattle.book.specs.Good.{Good, shaped, seat_in_lem}
use Rattle.book.specs.Lens.{moved_head, moved_length, moved_activities, moved_seats, moved_seat, moved_other, moved_activity, moved_neighbour}
use Rattle.book.specs.Same.{same_book}
use Rattle.run.specs.Step.{refused, wanted, turned, judged, lot_of, answer_to, book_after, turned_book}
use Rattle.run.specs.Run.{after, answers}
use Rattle.run.specs.Kept.{legal_event, step_good}
use Rattle.demands.specs.Groups.{group_of, in_group, only, only_to}
use Rattle.demands.specs.OneGroup.{OneGroup, one_group}

-- b is a good book with o's header and length, and its seats are in o's activities
pub record Like (o b : List ℕ) : Type 0 where
  pub good : Good b
  pub head : head_of b ≡ head_of o
  pub size : length b ≡ length o
  pub acts : activity_count b ≡ activity_count o
  pub seats : seat_count b ≡ seat_count o
  pub lots : (n : ℕ) → n < seat_count o → (seat_of b n).activity ≡ (seat_of o n).activity

-- two books like o that agree on group g: on its activity, and on the seats in it
pub record Same (o : List ℕ) (g : ℕ) (b c : List ℕ) : Type 0 where
  pub left : Like o b
  pub right : Like o c
  pub activity : (k : ℕ) → k < activity_count o → suc k ≡ g → activity_of b k ≡ activity_of c k
  pub seat : (n : ℕ) → n < seat_count o → suc (seat_of o n).activity ≡ g → seat_of b n ≡ seat_of c n

pub itself : (o : List ℕ) → Good o → Like o o
itself o g = record { good = g; head = refl; size = refl; acts = refl; seats = refl; lots = λ n l. refl }

-- the direction that a legal event gives its activity
abbrev pub turn : List ℕ → Event → ℕ
turn b e = turned (lot_of b e.seat).direction (wanted (lot_of b e.seat).kind (seat_of b e.seat).role e.way e.message)

-- what an event makes of each seat and of each activity: a change where it stands and is not refused, and else none
abbrev seat_after : List ℕ → Event → ℕ → Seat
seat_after b e n =
    cond (eqb n e.seat) (cond (eqb (answer_to b e).refusal 0) (with_state (seat_of b n) (answer_to b e).state) (seat_of b n)) (seat_of b n)

abbrev pub activity_after : List ℕ → Event → ℕ → Activity
activity_after b e k =
    cond (eqb k (seat_of b e.seat).activity) (cond (eqb (answer_to b e).refusal 0) (with_direction (activity_of b k) (turn b e)) (activity_of b k))
    (activity_of b k)

kept_cond : {A : Type 0} (t : Bool) (x y : A) → cond t (cond false x y) y ≡ y
kept_cond true x y = refl
kept_cond false x y = refl

-- a book that is left, and one that is moved
module _ (b : List ℕ) (e : Event) where
  left_book : eqb (answer_to b e).refusal 0 ≡ false → book_after b e ≡ b
  unfolding book_after turned_book
  left_book t = simp t

  moved_book : eqb (answer_to b e).refusal 0 ≡ true → book_after b e ≡ moved b e.seat (answer_to b e).state (turn b e)
  unfolding book_after turned_book
  moved_book t = simp t

module _ (b : List ℕ) (e : Event) (good : Good b) where
  sh : Shaped b
  sh = shaped b good.head

  there : eqb (answer_to b e).refusal 0 ≡ true → e.seat < seat_count b
  there t = (legal_event b e (eqb-true _ _ t)).seat

  lot_in : eqb (answer_to b e).refusal 0 ≡ true → (seat_of b e.seat).activity < activity_count b
  lot_in t = seat_in_lem b e.seat good.seats (there t)

  -- one law for what no event changes
  fixed : {A : Type 0} (read : List ℕ → A) → (eqb (answer_to b e).refusal 0 ≡ true → read (moved b e.seat (answer_to b e).state (turn b e)) ≡ read b)
      → read (book_after b e) ≡ read b
  fixed read h =
      ⊎_elim (λ t. ap read (moved_book b e t) ∙ h t) (λ t. ap read (left_book b e t)) (cases (eqb (answer_to b e).refusal 0))

  pub after_head : head_of (book_after b e) ≡ head_of b
  after_head = fixed head_of (λ t. moved_head b _ _ _ sh (there t) (lot_in t))

  pub after_length : length (book_after b e) ≡ length b
  after_length = fixed length (λ t. moved_length b _ _ _ sh (there t) (lot_in t))

  pub after_acts : activity_count (book_after b e) ≡ activity_count b
  after_acts = fixed activity_count (λ t. moved_activities b _ _ _ sh (there t) (lot_in t))

  pub after_seats : seat_count (book_after b e) ≡ seat_count b
  after_seats = fixed seat_count (λ t. moved_seats b _ _ _ sh (there t) (lot_in t))

  pub after_seat : (n : ℕ) → seat_of (book_after b e) n ≡ seat_after b e n
  after_seat n = ⊎_elim one two (cases (eqb (answer_to b e).refusal 0)) where
    one : eqb (answer_to b e).refusal 0 ≡ true → seat_of (book_after b e) n ≡ seat_after b e n
    one t =
        ap (λ (x : List ℕ). seat_of x n) (moved_book b e t)
        ∙ ⊎_elim
        (λ (z : n ≡ e.seat). simp (t, eq-eqb n e.seat z)
        (ap (seat_of (moved b e.seat (answer_to b e).state (turn b e))) z ∙ moved_seat b e.seat (answer_to b e).state (turn b e) sh (there t) (lot_in t)
        ∙ ap (λ (m : ℕ). with_state (seat_of b m) (answer_to b e).state) (sym z)))
        (λ ne. simp (ne_eqb n e.seat ne) (moved_other b e.seat (answer_to b e).state (turn b e) sh (there t) (lot_in t) n ne))
        (same_or n e.seat)

    two : eqb (answer_to b e).refusal 0 ≡ false → seat_of (book_after b e) n ≡ seat_after b e n
    two t = ap (λ (x : List ℕ). seat_of x n) (left_book b e t) ∙ simp t (sym (kept_cond (eqb n e.seat) (with_state (seat_of b n) (answer_to b e).state) (seat_of b n)))

  pub after_activity : (k : ℕ) → k < activity_count b → activity_of (book_after b e) k ≡ activity_after b e k
  after_activity k kl = ⊎_elim one two (cases (eqb (answer_to b e).refusal 0)) where
    one : eqb (answer_to b e).refusal 0 ≡ true → activity_of (book_after b e) k ≡ activity_after b e k
    one t =
        ap (λ (x : List ℕ). activity_of x k) (moved_book b e t)
        ∙ ⊎_elim
        (λ (z : k ≡ (seat_of b e.seat).activity). simp (t, eq-eqb k (seat_of b e.seat).activity z)
        (ap (activity_of (moved b e.seat (answer_to b e).state (turn b e))) z ∙ moved_activity b e.seat (answer_to b e).state (turn b e) sh (there t) (lot_in t)
        ∙ ap (λ (m : ℕ). with_direction (activity_of b m) (turn b e)) (sym z)))
        (λ ne. simp (ne_eqb k (seat_of b e.seat).activity ne) (moved_neighbour b e.seat (answer_to b e).state (turn b e) sh (there t) (lot_in t) k kl ne))
        (same_or k (seat_of b e.seat).activity)

    two : eqb (answer_to b e).refusal 0 ≡ false → activity_of (book_after b e) k ≡ activity_after b e k
    two t =
        ap (λ (x : List ℕ). activity_of x k) (left_book b e t)
        ∙ simp t (sym (kept_cond (eqb k (seat_of b e.seat).activity) (with_direction (activity_of b k) (turn b e)) (activity_of b k)))

-- an event that names no seat is refused
nobody : (b : List ℕ) (e : Event) → seat_count b ≤ e.seat → answer_to b e ≡ refused 11 0
unfolding answer_to
nobody b e l = simp (le-ltb _ _ l)

somebody : (b : List ℕ) (e : Event) → e.seat < seat_count b → answer_to b e ≡ judged (lot_of b e.seat) (seat_of b e.seat) e.way e.message
unfolding answer_to
somebody b e l = simp (lt-ltb _ _ l)

-- a seat stays in its activity
seat_lot : (b : List ℕ) (e : Event) (n : ℕ) → (seat_after b e n).activity ≡ (seat_of b n).activity
seat_lot b e n = at (eqb n e.seat) (eqb (answer_to b e).refusal 0) where
  at : (t u : Bool) → (cond t (cond u (with_state (seat_of b n) (answer_to b e).state) (seat_of b n)) (seat_of b n)).activity ≡ (seat_of b n).activity
  at true true = refl
  at true false = refl
  at false u = refl

like_next : (o b : List ℕ) (e : Event) → Like o b → Like o (book_after b e)
like_next o b e k =
    record {
      good = step_good b e k.good;
      head = after_head b e k.good ∙ k.head;
      size = after_length b e k.good ∙ k.size;
      acts = after_acts b e k.good ∙ k.acts;
      seats = after_seats b e k.good ∙ k.seats;
      lots = λ n l. ap (λ (x : Seat). x.activity) (after_seat b e k.good n) ∙ seat_lot b e n ∙ k.lots n l;
    }

-- the group of an event that names a seat, and of one that does not
group_there : (o : List ℕ) (e : Event) → e.seat < seat_count o → group_of o e ≡ suc (seat_of o e.seat).activity
group_there o e l = simp (lt-ltb _ _ l)

group_none : (o : List ℕ) (e : Event) → seat_count o ≤ e.seat → group_of o e ≡ 0
group_none o e l = simp (le-ltb _ _ l)

module _ (o : List ℕ) (g : ℕ) (b c : List ℕ) (e : Event) (s : Same o g b c) where
  bl : Like o b
  bl = s.left

  cl : Like o c
  cl = s.right

  -- an event of another group leaves what the books agree on
  stay : in_group o g e ≡ false → Same o g (book_after b e) c
  stay m =
      record {
        left = like_next o b e bl;
        right = cl;
        activity = λ k l z. after_activity b e bl.good k (omega (arith, bl.acts)) ∙ other_activity k z ∙ s.activity k l z;
        seat = λ n l z. after_seat b e bl.good n ∙ other_seat n l z ∙ s.seat n l z;
      }
    where
      other_seat : (n : ℕ) → n < seat_count o → suc (seat_of o n).activity ≡ g → seat_after b e n ≡ seat_of b n
      other_seat n l z =
          simp (ne_eqb n e.seat (λ (q : n ≡ e.seat).
          eqb-false (group_of o e) g m (group_there o e (omega arith) ∙ ap (λ (i : ℕ). suc (seat_of o i).activity) (sym q) ∙ z)))

      other_activity : (k : ℕ) → suc k ≡ g → activity_after b e k ≡ activity_of b k
      other_activity k z =
          ⊎_elim
          (λ (l : e.seat < seat_count o). simp (ne_eqb k (seat_of b e.seat).activity (λ q.
          eqb-false (group_of o e) g m (group_there o e l ∙ ap suc (sym (q ∙ bl.lots e.seat l)) ∙ z))))
          (λ l.
          let t : eqb (answer_to b e).refusal 0 ≡ false = ap (λ (a : Answer). eqb a.refusal 0) (nobody b e (omega (arith, bl.seats))) in
          simp t (kept_cond (eqb k (seat_of b e.seat).activity) (with_direction (activity_of b k) (turn b e)) (activity_of b k)))
          (below_or e.seat (seat_count o))

  -- an event of the group is answered alike, and changes both books alike
  module _ (m : in_group o g e ≡ true) where
    is_g : group_of o e ≡ g
    is_g = eqb-true _ _ m

    module _ (l : e.seat < seat_count o) where
      same_seat : seat_of b e.seat ≡ seat_of c e.seat
      same_seat = s.seat e.seat l (sym (group_there o e l) ∙ is_g)

      same_lot : lot_of b e.seat ≡ lot_of c e.seat
      same_lot =
          let k = (seat_of o e.seat).activity in
          ap (activity_of b) (bl.lots e.seat l)
          ∙ s.activity k (omega (arith, seat_in_lem b e.seat bl.good.seats (omega (arith, bl.seats)), bl.lots e.seat l, bl.acts)) (sym (group_there o e l) ∙ is_g)
          ∙ sym (ap (activity_of c) (cl.lots e.seat l))

      answer_there : answer_to b e ≡ answer_to c e
      answer_there =
          somebody b e (omega (arith, bl.seats)) ∙ (λ j. judged (same_lot j) (same_seat j) e.way e.message) ∙ sym (somebody c e (omega (arith, cl.seats)))

      turn_there : turn b e ≡ turn c e
      turn_there = λ j. turned (same_lot j).direction (wanted (same_lot j).kind (same_seat j).role e.way e.message)

    same_answer : answer_to b e ≡ answer_to c e
    same_answer =
        ⊎_elim answer_there (λ l. nobody b e (omega (arith, bl.seats)) ∙ sym (nobody c e (omega (arith, cl.seats)))) (below_or e.seat (seat_count o))

    seat_alike : (n : ℕ) → seat_of b n ≡ seat_of c n → seat_after b e n ≡ seat_after c e n
    seat_alike n q =
        λ j. cond (eqb n e.seat) (cond (eqb (same_answer j).refusal 0) (with_state (q j) (same_answer j).state) (q j)) (q j)

    activity_alike : (k : ℕ) → suc k ≡ g → activity_of b k ≡ activity_of c k → activity_after b e k ≡ activity_after c e k
    activity_alike k z q =
        ⊎_elim
        (λ l. λ j. cond (eqb k (same_seat l j).activity) (cond (eqb (same_answer j).refusal 0) (with_direction (q j) (turn_there l j)) (q j)) (q j))
        (λ l. absurd (omega (arith, z, is_g, group_none o e l)))
        (below_or e.seat (seat_count o))

    move : (answer_to b e ≡ answer_to c e) × Same o g (book_after b e) (book_after c e)
    move = (
      same_answer,
      record {
        left = like_next o b e bl;
        right = like_next o c e cl;
        activity = λ k l z.
            after_activity b e bl.good k (omega (arith, bl.acts)) ∙ activity_alike k z (s.activity k l z) ∙ sym (after_activity c e cl.good k (omega (arith, cl.acts)));
        seat = λ n l z. after_seat b e bl.good n ∙ seat_alike n (s.seat n l z) ∙ sym (after_seat c e cl.good n);
      },
    )

module _ (o : List ℕ) (good : Good o) where
  -- a run does to group g what the run of g's events alone does
  alone : (g : ℕ) (es : List Event) → OneGroup (in_group o g) (Same o g) es o o
  alone g es =
      one_group (in_group o g) (Same o g) (λ b c e m s. move o g b c e s m) (λ b c e m s. stay o g b c e s m) es o o
      (record { left = itself o good; right = itself o good; activity = λ k l z. refl; seat = λ n l z. refl })

  module _ (es fs : List Event) (groups : (g : ℕ) → only (in_group o g) es ≡ only (in_group o g) fs) where
    -- the same answers, group by group
    pub same_answers : (g : ℕ) → only_to (in_group o g) es (answers o es) ≡ only_to (in_group o g) fs (answers o fs)
    same_answers g = (alone g es).0 ∙ rw (groups g) (sym (alone g fs).0)

    agree : (g : ℕ) → (Same o g (after o es) (after o (only (in_group o g) fs))) × Same o g (after o fs) (after o (only (in_group o g) fs))
    agree g = (rw (groups g) at (alone g es).1, (alone g fs).1)

    -- the same book: each activity and each seat is in a group
    pub same_books : after o es ≡ after o fs
    same_books =
        let l = (alone 0 es).1.left in
        let r = (alone 0 fs).1.left in
        same_book (after o es) (after o fs) (shaped _ l.good.head) (shaped _ r.good.head) (l.size ∙ sym r.size) (l.head ∙ sym r.head)
        (l.acts ∙ sym r.acts) (l.seats ∙ sym r.seats)
        (λ k h. let k' : k < activity_count o = omega (arith, l.acts) in
        let a = agree (suc k) in a.0.activity k k' refl ∙ sym (a.1.activity k k' refl))
        (λ n h. let n' : n < seat_count o = omega (arith, l.seats) in
        let a = agree (suc (seat_of o n).activity) in a.0.seat n n' refl ∙ sym (a.1.seat n n' refl))
