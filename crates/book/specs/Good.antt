-- A good book, and that it stays good where one event is written.
-- The argument: book_refusal is 0 where the five tests pass, and there alone (proofs/Chain.antt); after an event each test passes
-- again, at the seat and the activity that were written by what is asked below, and elsewhere because nothing changed there.
-- Assumes nothing.
use Rattle.std.specs.Prelude.{◌≡◌, Bool, false, cond, not, ◌&&◌, List, ℕ, ◌≤◌, ◌<◌, length, leb, ltb, eqb}
use Rattle.std.proofs.Common.{sym, ◌∙◌, arith, le-ltb, ltb-true, eqb-true, leb-true, le-leb, eq-eqb}
use Rattle.std.proofs.Math.Path.{ap}
use Rattle.std.proofs.Math.Bool.{true}
use Rattle.std.proofs.Math.Logic.{⊎_elim}
use Rattle.lemmas.specs.Bools.{both, both_of}
use Rattle.lemmas.specs.Orders.{same_or}
use Rattle.lemmas.specs.Walks.{every_at, every_all}
use Rattle.rules.specs.Rules.{has_state}
use Rattle.book.specs.declared.Activity.{Activity}
use Rattle.book.specs.declared.Seat.{Seat}
use Rattle.book.specs.Layout.{activity_count, seat_count, activity_of, seat_of, head_size, with_state, moved, Shaped}
use Rattle.book.specs.Book.{atomic, mixed, numbers_good, head_good, activity_good, activity_good_at, activities_good, seat_good, seat_good_at, seats_good, agrees, agrees_at, directions_good, book_refusal}
use Rattle.book.specs.Lens.{moved_shaped, moved_activities, moved_seats, moved_seat, moved_other, moved_activity, moved_neighbour}

-- a good header says how long the book is
pub shaped : (b : List ℕ) → head_good b ≡ true → Shaped b
unfolding head_good numbers_good
shaped b h =
    let h₅ = both _ _ h in
    let h₄ = both _ _ h₅.0 in
    let h₃ = both _ _ h₄.0 in
    let h₂ = both _ _ h₃.0 in
    record {
      acts = leb-true _ _ h₂.0;
      seats = leb-true _ _ h₂.1;
      acts_from = eqb-true _ _ h₃.1;
      seats_from = eqb-true _ _ h₄.1;
      len = eqb-true _ _ h₅.1;
    }

unshaped : (b : List ℕ) → Shaped b → head_good b ≡ true
unfolding head_good numbers_good
unshaped b h =
    both_of (both_of (both_of (both_of (le-leb _ _ h.acts) (le-leb _ _ h.seats)) (eq-eqb _ _ h.acts_from)) (eq-eqb _ _ h.seats_from))
    (eq-eqb _ _ h.len)

-- a good seat's activity is one of the book's, and its state one that its role has under its table
seat_parts : (b : List ℕ) (n : ℕ) → seats_good b ≡ true → n < seat_count b
    → (ltb (seat_of b n).activity (activity_count b) ≡ true) × (has_state (seat_of b n).role (seat_of b n).table (seat_of b n).state ≡ true)
unfolding seats_good seat_good
seat_parts b n h l = both _ _ (every_at (seat_good_at b) (seat_count b) n h l)

pub seat_in_lem : (b : List ℕ) (n : ℕ) → seats_good b ≡ true → n < seat_count b → (seat_of b n).activity < activity_count b
seat_in_lem b n h l = ltb-true _ _ (seat_parts b n h l).0

pub seat_has : (b : List ℕ) (n : ℕ) → seats_good b ≡ true → n < seat_count b → has_state (seat_of b n).role (seat_of b n).table (seat_of b n).state ≡ true
seat_has b n h l = (seat_parts b n h l).1

pub record Good (b : List ℕ) : Type 0 where
  pub long : head_size ≤ length b
  pub head : head_good b ≡ true
  pub activities : activities_good b ≡ true
  pub seats : seats_good b ≡ true
  pub directions : directions_good b ≡ true

abbrev pub chain : Bool → Bool → Bool → Bool → Bool → ℕ
chain l h a s d = cond l 1 (cond (not h) 2 (cond (not a) 3 (cond (not s) 4 (cond (not d) 5 0))))

pub good_to : (b : List ℕ) → Good b → book_refusal b ≡ 0
unfolding book_refusal
good_to b g = simp (le-ltb _ _ g.long, g.head, g.activities, g.seats, g.directions)

-- a direction is one of three
pub direction_most : (kind d : ℕ) → activity_good kind d ≡ true → d ≤ 2
unfolding activity_good
direction_most kind d h = at (eqb kind atomic) h where
  at : (t : Bool) → cond t (leb d 2) (eqb kind mixed && eqb d 0) ≡ true → d ≤ 2
  at true k = leb-true d 2 k
  at false k = let z : d ≡ 0 = eqb-true d 0 (both (eqb kind mixed) (eqb d 0) k).1 in omega arith

pub lot_good : (b : List ℕ) (k : ℕ) → activities_good b ≡ true → k < activity_count b → activity_good_at b k ≡ true
unfolding activities_good
lot_good b k h l = every_at (activity_good_at b) (activity_count b) k h l

pub lot_direction : (b : List ℕ) (k : ℕ) → activities_good b ≡ true → k < activity_count b → (activity_of b k).direction ≤ 2
lot_direction b k h l = direction_most _ _ (lot_good b k h l)

abbrev sees : Activity → Seat → Bool
sees y x = agrees y.kind y.direction x.role x.state

-- a seat in another state that its role has under its table
seat_state : (a v : ℕ) (x : Seat) → seat_good a x ≡ true → has_state x.role x.table v ≡ true → seat_good a (with_state x v) ≡ true
unfolding seat_good
seat_state a v x h k = both_of (both (ltb x.activity a) (has_state x.role x.table x.state) h).0 k

-- Seat n's state becomes v, and its activity's direction d.
module _ (b : List ℕ) (n v d : ℕ) (g : Good b) (l : n < seat_count b)
    (state_allowed : has_state (seat_of b n).role (seat_of b n).table v ≡ true)
    (direction_allowed : activity_good (activity_of b (seat_of b n).activity).kind d ≡ true)
    (mine : agrees (activity_of b (seat_of b n).activity).kind d (seat_of b n).role v ≡ true)
    (theirs : (role state : ℕ) → agrees (activity_of b (seat_of b n).activity).kind (activity_of b (seat_of b n).activity).direction role state ≡ true
    → agrees (activity_of b (seat_of b n).activity).kind d role state ≡ true) where
  abbrev x : Seat
  x = seat_of b n

  abbrev k : ℕ
  k = x.activity

  abbrev y : Activity
  y = activity_of b k

  sh : Shaped b
  sh = shaped b g.head

  kl : k < activity_count b
  kl = seat_in_lem b n g.seats l

  abbrev b₂ : List ℕ
  b₂ = moved b n v d

  acts : (j : ℕ) → j < activity_count b₂ → activity_good_at b₂ j ≡ true
  unfolding activities_good
  acts j jl =
      let jl₀ : j < activity_count b = omega (arith, moved_activities b n v d sh l kl) in
      ⊎_elim
      (λ (e : j ≡ k). ap (activity_good_at b₂) e ∙ ap (λ (z : Activity). activity_good z.kind z.direction) (moved_activity b n v d sh l kl) ∙ direction_allowed)
      (λ ne. ap (λ (z : Activity). activity_good z.kind z.direction) (moved_neighbour b n v d sh l kl j jl₀ ne) ∙ every_at (activity_good_at b) (activity_count b) j g.activities jl₀)
      (same_or j k)

  seat_ok : (m : ℕ) → m < seat_count b₂ → seat_good_at b₂ m ≡ true
  unfolding seats_good
  seat_ok m ml =
      let ml₀ : m < seat_count b = omega (arith, moved_seats b n v d sh l kl) in
      ap (λ (a : ℕ). seat_good a (seat_of b₂ m)) (moved_activities b n v d sh l kl)
      ∙ ⊎_elim
      (λ (e : m ≡ n). ap (λ (i : ℕ). seat_good (activity_count b) (seat_of b₂ i)) e ∙ ap (seat_good (activity_count b)) (moved_seat b n v d sh l kl)
      ∙ seat_state (activity_count b) v x (every_at (seat_good_at b) (seat_count b) n g.seats l) state_allowed)
      (λ ne. ap (seat_good (activity_count b)) (moved_other b n v d sh l kl m ne) ∙ every_at (seat_good_at b) (seat_count b) m g.seats ml₀)
      (same_or m n)

  agree_ok : (m : ℕ) → m < seat_count b₂ → agrees_at b₂ m ≡ true
  unfolding directions_good agrees_at
  agree_ok m ml =
      let ml₀ : m < seat_count b = omega (arith, moved_seats b n v d sh l kl) in
      let old : sees (activity_of b (seat_of b m).activity) (seat_of b m) ≡ true = every_at (agrees_at b) (seat_count b) m g.directions ml₀ in
      ⊎_elim
      (λ (e : m ≡ n). ap (λ (i : ℕ). sees (activity_of b₂ (seat_of b₂ i).activity) (seat_of b₂ i)) e
      ∙ ap (λ (s : Seat). sees (activity_of b₂ s.activity) s) (moved_seat b n v d sh l kl)
      ∙ ap (λ (z : Activity). agrees z.kind z.direction x.role v) (moved_activity b n v d sh l kl) ∙ mine)
      (λ ne. ap (λ (s : Seat). sees (activity_of b₂ s.activity) s) (moved_other b n v d sh l kl m ne)
      ∙ ⊎_elim
      (λ (e : (seat_of b m).activity ≡ k). ap (λ (i : ℕ). sees (activity_of b₂ i) (seat_of b m)) e ∙ ap (λ (z : Activity). sees z (seat_of b m)) (moved_activity b n v d sh l kl)
      ∙ theirs _ _ (sym (ap (λ (i : ℕ). sees (activity_of b i) (seat_of b m)) e) ∙ old))
      (λ nk. ap (λ (z : Activity). sees z (seat_of b m)) (moved_neighbour b n v d sh l kl (seat_of b m).activity (seat_in_lem b m g.seats ml₀) nk) ∙ old)
      (same_or (seat_of b m).activity k))
      (same_or m n)

  pub moved_good : Good b₂
  unfolding activities_good seats_good directions_good
  moved_good = record {
    long = omega (arith, moved_shaped b n v d sh l kl);
    head = unshaped b₂ (moved_shaped b n v d sh l kl);
    activities = every_all _ _ acts;
    seats = every_all _ _ seat_ok;
    directions = every_all _ _ agree_ok;
  }
