-- One outcome: once an atomic activity's coordinator has legally sent Close (Compensate), no event of any run sends the other.
-- The argument: a legal event that asks for a direction leaves its activity with it; a direction that is set stays, since an event that
-- asks for the other is refused; and what is asked of a set direction without a clash is that direction.
-- Assumes nothing.
use Rattle.std.specs.Prelude.{◌≡◌, refl, Bool, true, false, ◌≢◌, List, [], ◌∷◌, ℕ, ◌<◌, eqb}
use Rattle.std.proofs.Common.{sym, ap, ◌∙◌, true≢false, ⊎_elim, arith, eq-eqb, ne_eqb, eqb-true}
use Rattle.lemmas.specs.Orders.{same_or}
use Rattle.records.specs.declared.Event.{Event}
use Rattle.book.specs.declared.Activity.{Activity}
use Rattle.book.specs.Layout.{activity_count, activity_of, seat_of, with_direction}
use Rattle.book.specs.Good.{Good, seat_in_lem}
use Rattle.run.specs.Step.{wanted, clashes, turned, lot_of, answer_to, book_after}
use Rattle.run.specs.Run.{after}
use Rattle.run.specs.Kept.{legal_event, step_good}
use Rattle.demands.specs.Neighbours.{after_acts, after_activity, activity_after, turn}

-- the direction that an event asks for at a book, or 0
abbrev pub want : List ℕ → Event → ℕ
want b e = wanted (lot_of b e.seat).kind (seat_of b e.seat).role e.way e.message

-- a direction that is set, and what is asked of it without a clash
asked_is : (d w : ℕ) → d ≢ 0 → w ≢ 0 → clashes d w ≡ false → w ≡ d
unfolding clashes
asked_is d w nd nw calm =
    ⊎_elim (λ (e : d ≡ w). sym e)
    (λ ne. absurd (true≢false (simp (ne_eqb w 0 nw, ne_eqb d 0 nd, ne_eqb d w ne) at calm)))
    (same_or d w)

turned_kept : (d w : ℕ) → d ≢ 0 → clashes d w ≡ false → turned d w ≡ d
unfolding turned
turned_kept d w nd calm =
    ⊎_elim (λ (z : w ≡ 0). simp (eq-eqb w 0 z)) (λ nw. simp (ne_eqb w 0 nw) (asked_is d w nd nw calm)) (same_or w 0)

turned_on : (d w : ℕ) → w ≢ 0 → turned d w ≡ w
unfolding turned
turned_on d w nw = simp (ne_eqb w 0 nw)

module _ (b : List ℕ) (good : Good b) where
  -- a direction that is set stays
  pub direction_stays : (e : Event) (k : ℕ) → k < activity_count b → (activity_of b k).direction ≢ 0
      → (activity_of (book_after b e) k).direction ≡ (activity_of b k).direction
  direction_stays e k l nd =
      ap (λ (y : Activity). y.direction) (after_activity b e good k l)
      ∙ at (eqb k (seat_of b e.seat).activity) refl (eqb (answer_to b e).refusal 0) refl
    where
      at : (t : Bool) → eqb k (seat_of b e.seat).activity ≡ t → (u : Bool) → eqb (answer_to b e).refusal 0 ≡ u
          → (activity_after b e k).direction ≡ (activity_of b k).direction
      at false p u q = simp p
      at true p false q = simp (p, q)
      at true p true q =
          let i : k ≡ (seat_of b e.seat).activity = eqb-true _ _ p in
          let d = ap (λ (m : ℕ). (activity_of b m).direction) i in
          simp (p, q)
          (turned_kept (lot_of b e.seat).direction (want b e) (λ z. nd (d ∙ z)) (legal_event b e (eqb-true _ _ q)).calm ∙ sym d)

  -- a legal event that asks for a direction leaves its activity with it
  pub direction_set : (e : Event) → (answer_to b e).refusal ≡ 0 → want b e ≢ 0
      → (activity_of (book_after b e) (seat_of b e.seat).activity).direction ≡ want b e
  direction_set e h nw =
      let l = legal_event b e h in
      let k = (seat_of b e.seat).activity in
      let changed : activity_after b e k ≡ with_direction (activity_of b k) (turn b e) = simp (eq-eqb k k refl, eq-eqb (answer_to b e).refusal 0 h) in
      ap (λ (y : Activity). y.direction) (after_activity b e good k (seat_in_lem b e.seat good.seats l.seat) ∙ changed)
      ∙ turned_on (lot_of b e.seat).direction (want b e) nw

pub directions_stay : (es : List Event) (b : List ℕ) → Good b → (k : ℕ) → k < activity_count b → (activity_of b k).direction ≢ 0
    → (activity_of (after b es) k).direction ≡ (activity_of b k).direction
directions_stay [] b good k l nd = refl
directions_stay (e ∷ es) b good k l nd =
    let s = direction_stays b good e k l nd in
    directions_stay es (book_after b e) (step_good b e good) k (omega (arith, after_acts b e good)) (λ z. nd (sym s ∙ z)) ∙ s

-- e was legal at b and asked for a direction; after it and any events es, f is legal and asks its activity, the same one, for a
-- direction: it is the same direction
pub one_outcome : (b : List ℕ) → Good b → (e : Event) (es : List Event) (f : Event)
    → (answer_to b e).refusal ≡ 0 → want b e ≢ 0
    → (answer_to (after (book_after b e) es) f).refusal ≡ 0 → want (after (book_after b e) es) f ≢ 0
    → (seat_of (after (book_after b e) es) f.seat).activity ≡ (seat_of b e.seat).activity
    → want (after (book_after b e) es) f ≡ want b e
one_outcome b good e es f h nw h' nw' same =
    let k = (seat_of b e.seat).activity in
    let set = direction_set b good e h nw in
    let kl : k < activity_count b = seat_in_lem b e.seat good.seats (legal_event b e h).seat in
    let stays = directions_stay es (book_after b e) (step_good b e good) k (omega (arith, after_acts b e good)) (λ z. nw (sym set ∙ z)) ∙ set in
    let there = ap (λ (m : ℕ). (activity_of (after (book_after b e) es) m).direction) same ∙ stays in
    asked_is (lot_of (after (book_after b e) es) f.seat).direction (want (after (book_after b e) es) f) (λ z. nw (sym there ∙ z)) nw'
    (legal_event (after (book_after b e) es) f h').calm
    ∙ there
