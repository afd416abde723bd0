-- A good book stays good after any event, so after any run.
-- The argument: a legal event leads to a state that the role has under the table; the direction that this state needs is none, or
-- the one that the state before needed, or the one just asked for; and an activity's direction only goes from none to one of two.
-- Assumes nothing.
use Rattle.std.specs.Prelude.{◌≡◌, refl, Bool, true, false, cond, not, ◌&&◌, ◌||◌, ◌⊎◌, List, [], ◌∷◌, ℕ, ◌≤◌, ◌<◌, ltb, eqb}
use Rattle.std.proofs.Common.{sym, ap, ◌∙◌, subst, true≢false, inl, inr, ⊎_elim, arith, eq-eqb, ne_eqb, eqb-true, ltb-true, le-leb}
use Rattle.std.proofs.lemmas.Bool.{eqb-false}
use Rattle.lemmas.specs.Bools.{both, either}
use Rattle.lemmas.specs.Orders.{same_or}
use Rattle.lemmas.specs.Walks.{every_at}
use Rattle.records.specs.declared.Event.{Event}
use Rattle.rules.specs.declared.Entry.{Entry}
use Rattle.rules.specs.declared.Entry.TheVariants.{Invalid, Ignore, Move, Forget, Reply}
use Rattle.rules.specs.Numbers.{sent, coordinator, close, compensate}
use Rattle.rules.specs.Rules.{moves, entry_of, answer_of, legal, has_state}
use Rattle.rules.specs.Outcome.{needed_by, suits, asked_by}
use Rattle.rules.specs.Laws.{legal_good, Turns, none, kept, asked as turns_asked}
use Rattle.rules.proofs.Sound.{next_has, next_turns}
use Rattle.book.specs.declared.Activity.{Activity}
use Rattle.book.specs.declared.Seat.{Seat}
use Rattle.book.specs.Layout.{activity_count, seat_count, activity_of, seat_of, moved}
use Rattle.book.specs.Book.{atomic, activity_good, activity_good_at, activities_good, agrees, agrees_at, directions_good}
use Rattle.book.specs.Good.{Good, seat_in_lem, moved_good}
use Rattle.run.specs.Step.{refused, known, ruled, asked, wanted, clashes, turned, judged, lot_of, answer_to, book_after, outcome_of, turned_book}
use Rattle.run.specs.Run.{after}

-- an answer of the tables that is refused leaves the state
pub stays : (e : Entry) (s : ℕ) → ((answer_of e s).refusal ≡ 0 → ⊥) → (answer_of e s).state ≡ s
stays Invalid s ne = refl
stays Ignore s ne = refl
stays (Move next) s ne = absurd (ne refl)
stays (Forget next) s ne = absurd (ne refl)
stays (Reply m) s ne = refl

pub ruled_stays : (x : Seat) (way m : ℕ) → ((ruled x way m).refusal ≡ 0 → ⊥) → (ruled x way m).state ≡ x.state
unfolding ruled
ruled_stays x way m = at (known way m) (moves x.role way m) where
  at : (t u : Bool)
      → ((cond (not t) (refused 12 x.state) (cond (not u) (refused 13 x.state) (answer_of (entry_of x.role x.table way m x.state) x.state))).refusal ≡ 0 → ⊥)
      → (cond (not t) (refused 12 x.state) (cond (not u) (refused 13 x.state) (answer_of (entry_of x.role x.table way m x.state) x.state))).state ≡ x.state
  at false u ne = refl
  at true false ne = refl
  at true true ne = stays (entry_of x.role x.table way m x.state) x.state ne

-- what is not refused is a legal entry of the tables
pub record Ruled (x : Seat) (way m : ℕ) : Type 0 where
  pub entry : legal (entry_of x.role x.table way m x.state) ≡ true
  pub state : (ruled x way m).state ≡ (answer_of (entry_of x.role x.table way m x.state) x.state).state

pub ruled_legal : (x : Seat) (way m : ℕ) → (ruled x way m).refusal ≡ 0 → Ruled x way m
unfolding ruled
ruled_legal x way m h = at (known way m) refl (moves x.role way m) refl where
  at : (t : Bool) → known way m ≡ t → (u : Bool) → moves x.role way m ≡ u → Ruled x way m
  at false e u f = absurd (omega (arith, simp e at h))
  at true e false f = absurd (omega (arith, simp (e, f) at h))
  at true e true f =
      record {
        entry = legal_good (entry_of x.role x.table way m x.state) x.state (simp (e, f) at h);
        state = simp (e, f);
      }

-- what is asked for
pub wanted_other : (kind role way m : ℕ) → (kind ≡ atomic → ⊥) → wanted kind role way m ≡ 0
unfolding wanted
wanted_other kind role way m ne = simp (ne_eqb kind atomic ne)

pub wanted_none : (kind role way m : ℕ) → asked role way m ≡ 0 → wanted kind role way m ≡ 0
unfolding wanted
wanted_none kind role way m e = at (eqb kind atomic) where
  at : (t : Bool) → cond t (asked role way m) 0 ≡ 0
  at true = e
  at false = refl

pub wanted_atomic : (kind role way m : ℕ) → kind ≡ atomic → wanted kind role way m ≡ asked role way m
unfolding wanted
wanted_atomic kind role way m e = simp (eq-eqb kind atomic e)

asked_le : (role way m : ℕ) → asked role way m ≤ 2
unfolding asked asked_by
asked_le role way m = at (eqb role coordinator && eqb way sent) (eqb m close) (eqb m compensate) where
  at : (t u v : Bool) → cond t (cond u 1 (cond v 2 0)) 0 ≤ 2
  at true true v = omega arith
  at true false true = omega arith
  at true false false = omega arith
  at false u v = omega arith

pub wanted_le : (kind role way m : ℕ) → wanted kind role way m ≤ 2
unfolding wanted
wanted_le kind role way m = at (eqb kind atomic) where
  at : (t : Bool) → cond t (asked role way m) 0 ≤ 2
  at true = asked_le role way m
  at false = omega arith

asked_sent : (role way m : ℕ) → role ≡ coordinator → way ≡ sent → asked role way m ≡ asked_by m
unfolding asked
asked_sent role way m e f = simp (eq-eqb role coordinator e, eq-eqb way sent f)

right : (a : Bool) {b : Bool} → b ≡ true → (a || b) ≡ true
right true h = refl
right false h = h

-- a direction that was right stays right where the direction goes from dir to turned dir w without a clash
still : (dir w t : ℕ) → clashes dir w ≡ false → (t ≡ 0) ⊎ ((t ≡ dir) ⊎ (t ≡ w)) → (eqb t 0 || eqb t (turned dir w)) ≡ true
unfolding turned clashes
still dir w t calm (inl z) = simp (eq-eqb t 0 z)
still dir w t calm (inr (inr e)) =
    ⊎_elim (λ (z : w ≡ 0). simp (eq-eqb t 0 (e ∙ z)))
    (λ nz. right (eqb t 0) (simp (ne_eqb w 0 nz) (eq-eqb t w e)))
    (same_or w 0)
still dir w t calm (inr (inl e)) =
    ⊎_elim (λ (z : w ≡ 0). right (eqb t 0) (simp (eq-eqb w 0 z) (eq-eqb t dir e)))
    (λ nz. ⊎_elim (λ (z : dir ≡ 0). simp (eq-eqb t 0 (e ∙ z)))
    (λ nd. ⊎_elim (λ (s : dir ≡ w). right (eqb t 0) (simp (ne_eqb w 0 nz) (eq-eqb t w (e ∙ s))))
    (λ ns. absurd (true≢false (simp (ne_eqb w 0 nz, ne_eqb dir 0 nd, ne_eqb dir w ns) at calm)))
    (same_or dir w))
    (same_or dir 0))
    (same_or w 0)

-- the activity's direction stays one that its kind allows
turned_good : (kind role way m dir : ℕ) → activity_good kind dir ≡ true → activity_good kind (turned dir (wanted kind role way m)) ≡ true
unfolding turned activity_good
turned_good kind role way m dir h =
    ⊎_elim (λ (e : kind ≡ atomic). of_atomic e (wanted_atomic kind role way m e)) (λ ne. of_other (wanted_other kind role way m ne)) (same_or kind atomic)
  where
    of_other : wanted kind role way m ≡ 0 → activity_good kind (turned dir (wanted kind role way m)) ≡ true
    of_other z = simp (eq-eqb (wanted kind role way m) 0 z) h

    of_atomic : kind ≡ atomic → wanted kind role way m ≡ asked role way m → activity_good kind (turned dir (wanted kind role way m)) ≡ true
    of_atomic e f =
        ⊎_elim (λ (z : wanted kind role way m ≡ 0). simp (eq-eqb (wanted kind role way m) 0 z) h)
        (λ nz. simp (ne_eqb (wanted kind role way m) 0 nz, eq-eqb kind atomic e) (le-leb (wanted kind role way m) 2 (rw f (asked_le role way m))))
        (same_or (wanted kind role way m) 0)

-- the seat itself agrees with the new direction
mine : (y : Activity) (x : Seat) (way m : ℕ) → Ruled x way m → clashes y.direction (wanted y.kind x.role way m) ≡ false
    → agrees y.kind y.direction x.role x.state ≡ true
    → agrees y.kind (turned y.direction (wanted y.kind x.role way m)) x.role (ruled x way m).state ≡ true
unfolding agrees suits
mine y x way m r calm old = at (eqb y.kind atomic && eqb x.role coordinator) refl where
  next : ℕ
  next = (answer_of (entry_of x.role x.table way m x.state) x.state).state

  at : (t : Bool) → (eqb y.kind atomic && eqb x.role coordinator) ≡ t
      → cond t (eqb (needed_by (ruled x way m).state) 0 || eqb (needed_by (ruled x way m).state) (turned y.direction (wanted y.kind x.role way m))) true ≡ true
  at false e = refl
  at true e =
      let p = both (eqb y.kind atomic) (eqb x.role coordinator) e in
      let k : y.kind ≡ atomic = eqb-true _ _ p.0 in
      let c : x.role ≡ coordinator = eqb-true _ _ p.1 in
      let was : (eqb (needed_by x.state) 0 || eqb (needed_by x.state) y.direction) ≡ true = simp e at old in
      let s : needed_by (ruled x way m).state ≡ needed_by (answer_of (entry_of x.role x.table way m x.state) x.state).state = ap needed_by r.state in
      still y.direction (wanted y.kind x.role way m) (needed_by (ruled x way m).state) calm
      (by s was (wanted_atomic y.kind x.role way m k) c (next_turns x.role x.table way m x.state r.entry c))
    where
      by : {t v d w : ℕ} → t ≡ needed_by v → (eqb (needed_by x.state) 0 || eqb (needed_by x.state) d) ≡ true
          → w ≡ asked x.role way m → x.role ≡ coordinator → Turns way m x.state v → (t ≡ 0) ⊎ ((t ≡ d) ⊎ (t ≡ w))
      by s was f c (none z) = inl (s ∙ z)
      by s was f c (kept z) =
          ⊎_elim (λ o. inl (s ∙ z ∙ eqb-true _ _ o)) (λ o. inr (inl (s ∙ z ∙ eqb-true _ _ o))) (either _ _ was)
      by s was f c (turns_asked v z) = inr (inr (s ∙ z ∙ sym (f ∙ asked_sent x.role way m c v)))

-- and so does every other seat of the activity
theirs : (y : Activity) (w role state : ℕ) → clashes y.direction w ≡ false → agrees y.kind y.direction role state ≡ true
    → agrees y.kind (turned y.direction w) role state ≡ true
unfolding agrees suits
theirs y w role state calm old = at (eqb y.kind atomic && eqb role coordinator) refl where
  at : (t : Bool) → (eqb y.kind atomic && eqb role coordinator) ≡ t → cond t (eqb (needed_by state) 0 || eqb (needed_by state) (turned y.direction w)) true ≡ true
  at false e = refl
  at true e =
      let was : (eqb (needed_by state) 0 || eqb (needed_by state) y.direction) ≡ true = simp e at old in
      still y.direction w (needed_by state) calm
      (⊎_elim (λ z. inl (eqb-true _ _ z)) (λ z. inr (inl (eqb-true _ _ z))) (either _ _ was))

-- a legal event: its seat is there, its table says so, and nothing clashes
pub record Legal (b : List ℕ) (e : Event) : Type 0 where
  pub seat : e.seat < seat_count b
  pub rule : Ruled (seat_of b e.seat) e.way e.message
  pub calm : clashes (lot_of b e.seat).direction (wanted (lot_of b e.seat).kind (seat_of b e.seat).role e.way e.message) ≡ false
  pub state : (answer_to b e).state ≡ (ruled (seat_of b e.seat) e.way e.message).state

pub legal_event : (b : List ℕ) (e : Event) → (answer_to b e).refusal ≡ 0 → Legal b e
unfolding answer_to judged outcome_of
legal_event b e h = at (ltb e.seat (seat_count b)) refl (eqb (ruled x e.way e.message).refusal 0) refl (clashes y.direction w) refl where
  x : Seat
  x = seat_of b e.seat

  y : Activity
  y = lot_of b e.seat

  w : ℕ
  w = wanted (lot_of b e.seat).kind (seat_of b e.seat).role e.way e.message

  at : (t : Bool) → ltb e.seat (seat_count b) ≡ t
      → (u : Bool) → eqb (ruled (seat_of b e.seat) e.way e.message).refusal 0 ≡ u
      → (v : Bool) → clashes (lot_of b e.seat).direction (wanted (lot_of b e.seat).kind (seat_of b e.seat).role e.way e.message) ≡ v
      → Legal b e
  at false p u q v r = absurd (omega (arith, simp p at h))
  at true p false q v r = absurd (eqb-false _ _ q (simp (p, q) at h))
  at true p true q true r = absurd (omega (arith, simp (p, q, r) at h))
  at true p true q false r =
      record {
        seat = ltb-true _ _ p;
        rule = ruled_legal (seat_of b e.seat) e.way e.message (eqb-true _ _ q);
        calm = r;
        state = simp (p, q, r);
      }

good_activity : (b : List ℕ) → Good b → (k : ℕ) → k < activity_count b → activity_good (activity_of b k).kind (activity_of b k).direction ≡ true
unfolding activities_good
good_activity b g k l = every_at (activity_good_at b) (activity_count b) k g.activities l

good_direction : (b : List ℕ) → Good b → (n : ℕ) → n < seat_count b
    → agrees (lot_of b n).kind (lot_of b n).direction (seat_of b n).role (seat_of b n).state ≡ true
unfolding directions_good agrees_at
good_direction b g n l = every_at (agrees_at b) (seat_count b) n g.directions l

pub step_good : (b : List ℕ) (e : Event) → Good b → Good (book_after b e)
unfolding book_after turned_book
step_good b e g = at (eqb (answer_to b e).refusal 0) refl where
  written : Legal b e → Good (moved b e.seat (ruled (seat_of b e.seat) e.way e.message).state
      (turned (lot_of b e.seat).direction (wanted (lot_of b e.seat).kind (seat_of b e.seat).role e.way e.message)))
  written l =
      let x = seat_of b e.seat in
      let y = lot_of b e.seat in
      let w = wanted y.kind x.role e.way e.message in
      let r = l.rule in
      moved_good b e.seat (ruled x e.way e.message).state (turned y.direction w) g l.seat
      (ap (has_state x.role x.table) r.state ∙ next_has x.role x.table e.way e.message x.state r.entry)
      (turned_good y.kind x.role e.way e.message y.direction (good_activity b g x.activity (seat_in_lem b e.seat g.seats l.seat)))
      (mine y x e.way e.message r l.calm (good_direction b g e.seat l.seat))
      (λ role state. theirs y w role state l.calm)

  at : (t : Bool) → eqb (answer_to b e).refusal 0 ≡ t
      → Good (cond t (moved b e.seat (answer_to b e).state
      (turned (lot_of b e.seat).direction (wanted (lot_of b e.seat).kind (seat_of b e.seat).role e.way e.message))) b)
  at false z = g
  at true z =
      let l = legal_event b e (eqb-true _ _ z) in
      subst (λ (s : ℕ). Good (moved b e.seat s (turned (lot_of b e.seat).direction (wanted (lot_of b e.seat).kind (seat_of b e.seat).role e.way e.message))))
      (sym l.state) (written l)

pub run_good : (b : List ℕ) (es : List Event) → Good b → Good (after b es)
run_good b [] g = g
run_good b (e ∷ es) g = run_good (book_after b e) es (step_good b e g)
