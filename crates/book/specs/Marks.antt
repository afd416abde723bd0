-- Rules 4 and 5 as marks: the states that a seat of each activity may have.
-- The argument: what an atomic activity's marks leave out is a coordinator's state that needs another direction.
-- Assumes nothing.
use Rattle.std.specs.Prelude.{◌≡◌, refl, Bool, true, false, cond, not, ◌&&◌, ◌||◌, List, Option, MatchOption, ℕ, ◌+◌, ◌*◌, ◌%◌, ◌≤◌, ◌<◌, leb, ltb, eqb, length, get_or, set, replicate}
use Rattle.std.proofs.Math.Path.{sym}
use Rattle.std.proofs.Common.{ap, ◌∙◌, ⊎_elim, arith, eqb→eq, length-set, get_or-set_same, get_or-set_other, lt-ltb, le-ltb, leb-true, eqb-true}
use Rattle.std.proofs.lemmas.List.{length-replicate, get_or-replicate}
use Rattle.std.proofs.Math.ListN.{get_or-eq_default}
use Rattle.lemmas.specs.Bools.{both}
use Rattle.lemmas.specs.Orders.{same_or, below_or}
use Rattle.lemmas.specs.Ranges.{each_at}
use Rattle.rules.specs.Numbers.{coordinator}
use Rattle.rules.specs.Rules.{has_state}
use Rattle.rules.specs.Outcome.{suits}
use Rattle.rules.specs.Marks.{marked_in, states_marks, suiting_marks, states_marked, suiting_marked, none_marked}
use Rattle.book.specs.declared.Seat.{Seat}
use Rattle.book.specs.Layout.{activity_count, activity_of, seat_of}
use Rattle.book.specs.Book.{atomic, mixed, activity_good, seat_good, agrees, agrees_at, fits_at}

abbrev pub seat_marks : ℕ → ℕ → ℕ
seat_marks kind direction = cond (eqb kind atomic) (suiting_marks direction) states_marks

abbrev pub seat_marks_at : List ℕ → ℕ → ℕ
seat_marks_at b k = seat_marks (activity_of b k).kind (activity_of b k).direction

-- the marks of the four good pairs of kind and direction, numbered as the code does
abbrev pub marks_by : ℕ → ℕ
marks_by n = cond (eqb n 0) (suiting_marks 0) (cond (eqb n 1) (suiting_marks 1) (cond (eqb n 2) (suiting_marks 2) states_marks))

pub marks_by_lem : (kind direction : ℕ) → activity_good kind direction ≡ true → marks_by ((3 * kind + direction + 1) % 4) ≡ seat_marks kind direction
unfolding activity_good
marks_by_lem kind direction h = at (eqb kind atomic) refl h where
  at : (t : Bool) → eqb kind atomic ≡ t → cond t (leb direction 2) (eqb kind mixed && eqb direction 0) ≡ true → marks_by ((3 * kind + direction + 1) % 4) ≡ seat_marks kind direction
  at true e k =
      let is : kind ≡ 1 = eqb-true kind 1 e in
      let l : direction ≤ 2 = leb-true direction 2 k in
      ap (λ (n : ℕ). marks_by ((3 * n + direction + 1) % 4)) is
      ∙ eqb→eq _ _ (each_at (λ d. eqb (marks_by ((3 * 1 + d + 1) % 4)) (seat_marks 1 d)) 3 0 tt direction (omega arith) (omega arith))
      ∙ ap (λ (n : ℕ). seat_marks n direction) (sym is)
  at false e k =
      let p = both (eqb kind mixed) (eqb direction 0) k in
      let is : kind ≡ 2 = eqb-true kind 2 p.0 in
      let none : direction ≡ 0 = eqb-true direction 0 p.1 in
      (λ j. marks_by ((3 * is j + none j + 1) % 4)) ∙ (λ j. seat_marks (sym is j) (sym none j))

-- marks that the code finds by an activity's number
pub marks_are : (kind direction n marks : ℕ) → activity_good kind direction ≡ true
    → (3 * kind + direction + 1) % 4 ≡ n → marks ≡ marks_by n → marks ≡ seat_marks kind direction
marks_are kind direction n marks good is e = e ∙ sym (ap marks_by is) ∙ marks_by_lem kind direction good

pub marks_agree : (kind direction role table s : ℕ) → marked_in (seat_marks kind direction) role table s ≡ (has_state role table s && agrees kind direction role s)
unfolding agrees
marks_agree kind direction role table s = at (eqb kind atomic) refl where
  chosen : (h t u : Bool) → (h && (not t || u)) ≡ (h && cond t u true)
  chosen h true u = refl
  chosen h false u = refl

  free : (h : Bool) → h ≡ (h && true)
  free true = refl
  free false = refl

  at : (t : Bool) → eqb kind atomic ≡ t → marked_in (seat_marks kind direction) role table s ≡ (has_state role table s && cond (eqb kind atomic && eqb role coordinator) (suits direction s) true)
  at true e = rw e (suiting_marked direction role table s ∙ chosen (has_state role table s) (eqb role coordinator) (suits direction s))
  at false e = rw e (states_marked role table s ∙ free (has_state role table s))

-- a seat whose activity there is, and one whose there is not
module _ (b : List ℕ) (n : ℕ) where
  abbrev x : Seat
  x = seat_of b n

  pub fits_marked : x.activity < activity_count b → marked_in (seat_marks_at b x.activity) x.role x.table x.state ≡ fits_at b n
  unfolding seat_good agrees_at
  fits_marked l = marks_agree (activity_of b x.activity).kind (activity_of b x.activity).direction x.role x.table x.state ∙ sym (simp (lt-ltb _ _ l))

  pub fits_nowhere : activity_count b ≤ x.activity → false ≡ fits_at b n
  unfolding seat_good
  fits_nowhere l = simp (le-ltb _ _ l)

-- an activity's marks, and none where there is no such activity
abbrev pub marks_at : List ℕ → ℕ → ℕ
marks_at b k = cond (ltb k (activity_count b)) (seat_marks_at b k) 0

abbrev pub TellsMarks : List ℕ → ℕ → Option ℕ → Type 0
TellsMarks b k o = MatchOption o (activity_count b ≤ k) (λ marks. marks ≡ marks_at b k)

-- a rule that may be asked for each activity that a seat can name, and tells its marks
pub record Tells (b : List ℕ) (may : ℕ → Type 0) (says : ℕ → Option ℕ → Type 0) : Type 0 where
  pub asked : (k : ℕ) → k < 256 → may k
  pub told : (k : ℕ) (o : Option ℕ) → k < 256 → says k o → TellsMarks b k o

-- the first i activities' marks stand at their numbers, and no others
pub record Marked (b : List ℕ) (i : ℕ) (marks : List ℕ) : Type 0 where
  pub size : length marks ≡ 256
  pub done : (k : ℕ) → k < i → get_or marks k 0 ≡ seat_marks_at b k
  pub none : (k : ℕ) → i ≤ k → get_or marks k 0 ≡ 0

pub marked_none : (b : List ℕ) → Marked b 0 (replicate 256 0)
marked_none b = record {
  size = length-replicate {A = ℕ} 256 0;
  done = λ k l. absurd (omega arith);
  none = λ k l. ⊎_elim (λ (h : k < 256). get_or-replicate 256 k 0 0 h) (λ (h : 256 ≤ k). get_or-eq_default (replicate 256 0) 0 {n = k} (omega (arith, h, length-replicate {A = ℕ} 256 0))) (below_or k 256);
}

pub marked_more : (b : List ℕ) (i v : ℕ) (marks : List ℕ) → i < 256 → v ≡ seat_marks_at b i → Marked b i marks → Marked b (i + 1) (set marks i v)
marked_more b i v marks l e m = record {
  size = length-set marks i v ∙ m.size;
  done = λ k h. ⊎_elim
      (λ (q : k ≡ i). ap (λ (j : ℕ). get_or (set marks i v) j 0) q ∙ get_or-set_same marks i v 0 (omega (arith, l, m.size)) ∙ e ∙ ap (seat_marks_at b) (sym q))
      (λ q. get_or-set_other marks i k v 0 q ∙ m.done k (omega (arith, h, q))) (same_or k i);
  none = λ k h. get_or-set_other marks i k v 0 (λ q. omega (arith, h, q)) ∙ m.none k (omega (arith, h));
}

pub marked_at : (b marks : List ℕ) → Marked b (activity_count b) marks → (k : ℕ) → get_or marks k 0 ≡ marks_at b k
marked_at b marks m k =
    ⊎_elim (λ (l : k < activity_count b). m.done k l ∙ sym (simp (lt-ltb _ _ l))) (λ (l : activity_count b ≤ k). m.none k l ∙ sym (simp (le-ltb _ _ l)))
    (below_or k (activity_count b))

-- a seat looked up in its activity's marks, and in the marks of all
pub marks_fit : (b : List ℕ) (n : ℕ)
    → marked_in (marks_at b (seat_of b n).activity) (seat_of b n).role (seat_of b n).table (seat_of b n).state ≡ fits_at b n
marks_fit b n =
    ⊎_elim
    (λ (l : (seat_of b n).activity < activity_count b). simp (lt-ltb _ _ l) (fits_marked b n l))
    (λ (l : activity_count b ≤ (seat_of b n).activity). simp (le-ltb _ _ l) (none_marked _ _ _ ∙ fits_nowhere b n l))
    (below_or (seat_of b n).activity (activity_count b))

pub looked_up : (b : List ℕ) (marks : List ℕ) (n : ℕ) → Marked b (activity_count b) marks
    → marked_in (get_or marks (seat_of b n).activity 0) (seat_of b n).role (seat_of b n).table (seat_of b n).state ≡ fits_at b n
looked_up b marks n m =
    ap (λ (k : ℕ). marked_in k (seat_of b n).role (seat_of b n).table (seat_of b n).state) (marked_at b marks m (seat_of b n).activity) ∙ marks_fit b n
