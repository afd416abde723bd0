-- The ends of `step`: what it answers and leaves is what the definitions say.
-- The argument: an event that the tables do not list is refused 12, 13 or 14, whichever test fails first; one that they list is known
-- and moved that way, so the tables answer it, unless its activity's direction is the other. So it is of any book (`end_none` to
-- `end_listed`); in a good one the tables say of a seat what they say at its place (`placed`), where `step` asks them.
-- Assumes nothing.
use Rattle.std.proofs.Common.{◌≡◌, refl, sym, ap, ◌∙◌, Bool, true, false, cond, not, List, ℕ, ◌≤◌, ◌<◌, arith, eqb, eq-eqb, ne_eqb, lt-ltb, le-ltb, le-leb}
use mathlib.Core.Bool.{and-false}
use Rattle.lemmas.specs.Bools.{both_of}
use Rattle.records.specs.declared.Event.{Event}
use Rattle.rules.specs.declared.Entry.{Entry}
use Rattle.rules.specs.declared.Answer.{Answer}
use Rattle.rules.specs.Rules.{moves, entry_of, answer_of, legal}
use Rattle.rules.specs.Place.{place_of, entry_at, place_entry}
use Rattle.rules.specs.Laws.{Known, within, moves_in, legal_answered, illegal_invalid}
use Rattle.rules.proofs.Sound.{legal_moves}
use Rattle.book.specs.declared.Activity.{Activity}
use Rattle.book.specs.declared.Seat.{Seat}
use Rattle.book.specs.Layout.{activity_count, seat_count, seat_of, moved, Shaped}
use Rattle.book.specs.Book.{seats_good, book_refusal}
use Rattle.book.specs.Good.{shaped, seat_in_lem, seat_has}
use Rattle.book.proofs.Chain.{good_of}
use Rattle.run.specs.Step.{refused, known, ruled, unlisted_number, wanted, clashes, turned, judged, lot_of, answer_to, book_after, outcome_of, turned_book}

abbrev said : Seat → ℕ → ℕ → Entry
said x way m = entry_of x.role x.table way m x.state

in_known : (way m : ℕ) → Known way m → known way m ≡ true
unfolding known
in_known way m i = both_of (both_of (le-leb way 1 i.way_high) (le-leb 1 m i.low)) (le-leb m 14 i.high)

pub moves_known : (role way m : ℕ) → moves role way m ≡ true → known way m ≡ true
moves_known role way m h = in_known way m (moves_in role way m h).known

module _ (x : Seat) (way m : ℕ) where
  ruled_unlisted : legal (said x way m) ≡ false → ruled x way m ≡ refused (unlisted_number x.role way m) x.state
  unfolding ruled unlisted_number
  ruled_unlisted h = at (known way m) (moves x.role way m) where
    at : (t u : Bool)
        → cond (not t) (refused 12 x.state) (cond (not u) (refused 13 x.state) (answer_of (said x way m) x.state))
        ≡ refused (cond (not t) 12 (cond (not u) 13 14)) x.state
    at false u = refl
    at true false = refl
    at true true = ap (λ (z : Entry). answer_of z x.state) (sym (illegal_invalid (said x way m) h))

  ruled_listed : legal (said x way m) ≡ true → ruled x way m ≡ answer_of (said x way m) x.state
  unfolding ruled
  ruled_listed h =
      simp (in_known way m (within x.role x.table way m x.state h).known, legal_moves x.role x.table way m x.state h)

  unlisted_some : unlisted_number x.role way m ≡ 0 → ⊥
  unfolding unlisted_number
  unlisted_some = at (known way m) (moves x.role way m) where
    at : (t u : Bool) → ◌≡◌ {A = ℕ} (cond (not t) 12 (cond (not u) 13 14)) 0 → ⊥
    at false u e = omega arith
    at true false e = omega arith
    at true true e = omega arith

-- a good book as the accessors ask for it
module _ (b : List ℕ) (g : book_refusal b ≡ 0) where
  pub good_shaped : Shaped b
  good_shaped = shaped b (good_of b g).head

  pub good_activity : (n : ℕ) → n < seat_count b → (seat_of b n).activity < activity_count b
  good_activity n l = seat_in_lem b n (good_of b g).seats l

pub end_none : (b : List ℕ) (e : Event) → seat_count b ≤ e.seat → (refused 11 0 ≡ answer_to b e) × (b ≡ book_after b e)
unfolding answer_to book_after turned_book
end_none b e l = (simp (le-ltb _ _ l), simp (le-ltb _ _ l))

module _ (b : List ℕ) (e : Event) where
  abbrev x : Seat
  x = seat_of b e.seat

  abbrev y : Activity
  y = lot_of b e.seat

  -- what the tables say of the seat, and what they say at its place
  abbrev entry : Entry
  entry = said (seat_of b e.seat) e.way e.message

  abbrev there : Entry
  there = entry_at (place_of (seat_of b e.seat).role (seat_of b e.seat).table (seat_of b e.seat).state) e.way e.message

  abbrev w : ℕ
  w = wanted (lot_of b e.seat).kind (seat_of b e.seat).role e.way e.message

  pub none_answer : seat_count b ≤ e.seat → answer_to b e ≡ refused 11 0
  none_answer l = sym (end_none b e l).0

  pub none_after : seat_count b ≤ e.seat → book_after b e ≡ b
  none_after l = sym (end_none b e l).1

  -- of any book
  module _ (l : e.seat < seat_count b) where
    -- what stands at the seat's place
    pub placed : seats_good b ≡ true → {s : Seat} {p : ℕ} → s ≡ seat_of b e.seat → p ≡ place_of s.role s.table s.state → entry_at p e.way e.message ≡ entry
    placed g {s} {p} is_s is_p =
        ap (λ (k : ℕ). entry_at k e.way e.message) (is_p ∙ (λ j. place_of (is_s j).role (is_s j).table (is_s j).state))
        ∙ place_entry x.role x.table e.way e.message x.state (seat_has b e.seat g l)

    here : answer_to b e ≡ outcome_of y.direction w x.state (ruled x e.way e.message)
    unfolding answer_to judged
    here = simp (lt-ltb _ _ l)

    -- a refused event leaves the book
    left : (r s : ℕ) → (r ≡ 0 → ⊥) → refused r s ≡ answer_to b e → (refused r s ≡ answer_to b e) × (b ≡ book_after b e)
    unfolding book_after turned_book
    left r s ne q = (q, simp (sym (ap (λ (a : Answer). eqb a.refusal 0) q) ∙ ne_eqb r 0 ne))

    pub end_unlisted : legal entry ≡ false → (refused (unlisted_number x.role e.way e.message) x.state ≡ answer_to b e) × (b ≡ book_after b e)
    unfolding outcome_of
    end_unlisted h =
        let n = unlisted_number x.role e.way e.message in
        left n x.state (unlisted_some x e.way e.message)
        (sym (here ∙ rw (ruled_unlisted x e.way e.message h) (simp (ne_eqb n 0 (unlisted_some x e.way e.message)))))

    module _ (h : legal entry ≡ true) where
      good : eqb (answer_of entry x.state).refusal 0 ≡ true
      good = eq-eqb _ _ (legal_answered entry x.state h)

      pub end_clash : clashes y.direction w ≡ true → (refused 15 x.state ≡ answer_to b e) × (b ≡ book_after b e)
      unfolding outcome_of
      end_clash k =
          left 15 x.state (λ z. omega arith) (sym (here ∙ rw (ruled_listed x e.way e.message h) (simp (good, k))))

      pub end_listed : clashes y.direction w ≡ false → {b' : List ℕ} → b' ≡ moved b e.seat (answer_of entry x.state).state (turned y.direction w)
          → (answer_of entry x.state ≡ answer_to b e) × (b' ≡ book_after b e)
      unfolding outcome_of book_after turned_book
      end_listed k is_b =
          let q : answer_of entry x.state ≡ answer_to b e = sym (here ∙ rw (ruled_listed x e.way e.message h) (simp (k, and-false))) in
          (q, is_b ∙ sym (simp (sym (ap (λ (a : Answer). eqb a.refusal 0) q) ∙ good) (ap (λ (a : Answer). moved b e.seat a.state (turned y.direction w)) (sym q))))

  -- of a good book, whose seats have states of their tables
  module _ (g : book_refusal b ≡ 0) (l : e.seat < seat_count b) where
    at_place : there ≡ entry
    at_place = placed l (good_of b g).seats refl refl

    pub unlisted_answer : legal there ≡ false → answer_to b e ≡ refused (unlisted_number x.role e.way e.message) x.state
    unlisted_answer h = sym (end_unlisted l (sym (ap legal at_place) ∙ h)).0

    pub unlisted_after : legal there ≡ false → book_after b e ≡ b
    unlisted_after h = sym (end_unlisted l (sym (ap legal at_place) ∙ h)).1

    module _ (h : legal there ≡ true) where
      listed : legal entry ≡ true
      listed = sym (ap legal at_place) ∙ h

      pub clash_answer : clashes y.direction w ≡ true → answer_to b e ≡ refused 15 x.state
      clash_answer k = sym (end_clash l listed k).0

      pub clash_after : clashes y.direction w ≡ true → book_after b e ≡ b
      clash_after k = sym (end_clash l listed k).1

      pub listed_answer : clashes y.direction w ≡ false → answer_to b e ≡ answer_of there x.state
      listed_answer k = sym (end_listed l listed k refl).0 ∙ ap (λ (z : Entry). answer_of z x.state) (sym at_place)

      pub listed_after : clashes y.direction w ≡ false → book_after b e ≡ moved b e.seat (answer_of there x.state).state (turned y.direction w)
      listed_after k =
          sym (end_listed l listed k refl).1
          ∙ ap (λ (z : Entry). moved b e.seat (answer_of z x.state).state (turned y.direction w)) (sym at_place)

-- what `step` is proved by
pub ruleset ends = (good_shaped, good_activity, none_answer, none_after, unlisted_answer, unlisted_after, clash_answer, clash_after, listed_answer, listed_after)
