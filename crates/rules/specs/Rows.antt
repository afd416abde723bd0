-- Rows of marks for the messages that go one way or the other: the rows of the messages that a role moves, and for each row the places at
-- which its message is legal.
-- The argument: a message without a row is none of the outline's, so the rule says no, and what is beyond the rows is more than any mark; for
-- the others antt computes every mark and compares.
-- Assumes nothing.
use Rattle.std.specs.Prelude.{◌≡◌, ℕ, ◌+◌, ◌*◌, ◌/◌, ◌%◌, ◌^◌, ◌<◌, ◌≤◌, Bool, true, false, cond, T, List, [], ◌∷◌, ◌==◌, nat_lt, slice_index, refl}
use Rattle.std.proofs.Common.{sym, ap, ◌∙◌, ⊎_elim, arith, eqb-true, le-ltb}
use Rattle.std.proofs.lemmas.Bool.{false≢true, eqb-false}
use Rattle.lemmas.specs.Bools.{same, same_is, never_true}
use Rattle.lemmas.specs.Orders.{below_or}
use Rattle.lemmas.specs.Ranges.{each, each_at}
use Rattle.rules.specs.Numbers.{coordinator, participant}
use Rattle.rules.specs.Tables.{coordinator_receives, coordinator_sends, participant_receives, participant_sends}
use Rattle.rules.specs.Rules.{line_of, moves, sends, receives, legal}
use Rattle.rules.specs.Laws.{Known, line_known, moves_in}
use Rattle.rules.specs.Place.{role_at, table_at, state_at, entry_at}

-- two rows a message, the first of message 12
abbrev pub row_of : ℕ → ℕ → ℕ
row_of way m = (2 * m + way + 8) % 32

-- more than 0 where the way or the message is too large to have a row
abbrev pub beyond_rows : ℕ → ℕ → ℕ
beyond_rows way m = way / 2 + m / 16

-- what the code finds of a way and a message, from the mark that it looks up
abbrev pub marks_it : ℕ → ℕ → ℕ → ℕ → Bool
marks_it marks at way m = nat_lt (beyond_rows way m) (marks / 2 ^ at % 2)

below_two : (x : ℕ) → x % 2 ≤ 1
below_two x = omega arith

-- what a rule says of each way and message, where it says yes only to the outline's
module _ (marks at : ℕ → ℕ → ℕ) (rule : ℕ → ℕ → Bool) where
  abbrev pub rows_are : Bool
  rows_are = each (λ way. each (λ m. same (marks_it (marks way m) (at way m) way m) (rule way m)) 0 16) 0 2

  pub rows_are_lem : T rows_are → ((way m : ℕ) → rule way m ≡ true → Known way m) → (way m : ℕ) → marks_it (marks way m) (at way m) way m ≡ rule way m
  rows_are_lem test known way m =
      ⊎_elim
      (λ (w : way < 2). ⊎_elim
      (λ (l : m < 16). same_is _ _
      (each_at (λ m. same (marks_it (marks way m) (at way m) way m) (rule way m)) 16 0
      (each_at (λ way. each (λ m. same (marks_it (marks way m) (at way m) way m) (rule way m)) 0 16) 2 0 test way (omega arith) (omega arith))
      m (omega arith) (omega arith)))
      (λ (l : 16 ≤ m). out (omega arith))
      (below_or m 16))
      (λ (w : 2 ≤ way). out (omega arith))
      (below_or way 2) where
        out : 1 ≤ beyond_rows way m → marks_it (marks way m) (at way m) way m ≡ rule way m
        out h =
            (let k = below_two (marks way m / 2 ^ at way m) in le-ltb (beyond_rows way m) (marks way m / 2 ^ at way m % 2) (omega (arith, h, k)))
            ∙ sym (never_true _ (λ y. let k = known way m y in absurd (omega (arith, h, k.way_high, k.high))))

-- the rows of the messages that a role moves
abbrev pub moved_marks : ℕ → ℕ
moved_marks role = cond (role == coordinator) 0x55aaa815 (cond (role == participant) 0xaa55542a 0)

no_row : (way m : ℕ) → marks_it 0 (row_of way m) way m ≡ false
no_row = rows_are_lem (λ way m. 0) row_of (λ way m. false) tt (λ way m h. absurd (false≢true h))

moved_test : T (rows_are (λ way m. 0x55aaa815) row_of (moves coordinator)) × T (rows_are (λ way m. 0xaa55542a) row_of (moves participant))
unfolding moves sends receives
moved_test = (tt, tt)

pub moved_marked : (role way m : ℕ) → marks_it (moved_marks role) (row_of way m) way m ≡ moves role way m
moved_marked role way m = at (role == coordinator) refl (role == participant) refl where
  of : (r marks : ℕ) → T (rows_are (λ way m. marks) row_of (moves r)) → role ≡ r → marks_it marks (row_of way m) way m ≡ moves role way m
  of r marks test e = rows_are_lem (λ way m. marks) row_of (moves r) test (λ way m h. (moves_in r way m h).known) way m ∙ ap (λ (k : ℕ). moves k way m) (sym e)

  at : (t : Bool) → (role == coordinator) ≡ t → (u : Bool) → (role == participant) ≡ u → marks_it (moved_marks role) (row_of way m) way m ≡ moves role way m
  at true e u f = rw e (of 1 0x55aaa815 moved_test.0 (eqb-true role 1 e))
  at false e true f = rw (e, f) (of 2 0xaa55542a moved_test.1 (eqb-true role 2 f))
  at false e false f =
      rw (e, f)
      (no_row way m
      ∙ sym (never_true (moves role way m) (λ h.
      let i = moves_in role way m h in
      let c = eqb-false role 1 e in
      let p = eqb-false role 2 f in
      ⊎_elim (λ (l : role < 2). c (omega (arith, l, i.role_low))) (λ (l : 2 ≤ role). p (omega (arith, l, i.role_high))) (below_or role 2))))

-- the places at which a row's message is legal
abbrev pub legal_rows : List ℕ
legal_rows =
    0xf00cf00c ∷ 0x2004100400000000 ∷ 0xf040f040 ∷ 0x4040104000000000 ∷ 0xf080f080 ∷ 0x8080108000000000
    ∷ 0x0 ∷ 0x0 ∷ 0x0 ∷ 0x0 ∷ 0xfff61ff600000000 ∷ 0x1e001e
    ∷ 0xfff61ff600000000 ∷ 0x120012 ∷ 0xf060106000000000 ∷ 0x600060 ∷ 0xf2a012a000000000 ∷ 0xa000a0
    ∷ 0xf300f30000000000 ∷ 0x23001300 ∷ 0xf800f80000000000 ∷ 0x48001800 ∷ 0xf400f40000000000 ∷ 0x84001400
    ∷ 0xf81e181e ∷ 0x812081200000000 ∷ 0xf2f8f2f8 ∷ 0x30003000000000 ∷ 0xf39e139e ∷ 0x396039600000000
    ∷ 0xf41e141e ∷ 0x412041200000000 ∷ []

abbrev pub legal_marks : ℕ → ℕ → ℕ
legal_marks way m = slice_index legal_rows (row_of way m)

legal_test : T (each (λ p. rows_are legal_marks (λ way m. p) (λ way m. legal (entry_at p way m))) 0 64)
unfolding entry_at line_of coordinator_receives coordinator_sends participant_receives participant_sends
legal_test = tt

entry_known : (place way m : ℕ) → legal (entry_at place way m) ≡ true → Known way m
unfolding entry_at
entry_known place way m h = line_known (role_at place) (table_at place) way m (state_at place) h

-- a place is one of 64
same_place : (place way m : ℕ) → entry_at (place % 64) way m ≡ entry_at place way m
unfolding entry_at
same_place place way m =
    let r : role_at (place % 64) ≡ role_at place = omega arith in
    let t : table_at (place % 64) ≡ table_at place = omega arith in
    let s : state_at (place % 64) ≡ state_at place = omega arith in
    (λ j. line_of (r j) (t j) way m (s j))

pub legal_marked : (place way m : ℕ) → marks_it (legal_marks way m) (place % 64) way m ≡ legal (entry_at place way m)
legal_marked place way m =
    rows_are_lem legal_marks (λ way m. place % 64) (λ way m. legal (entry_at (place % 64) way m))
    (each_at (λ p. rows_are legal_marks (λ way m. p) (λ way m. legal (entry_at p way m))) 64 0 legal_test (place % 64) (omega arith) (omega arith))
    (entry_known (place % 64)) way m
    ∙ ap legal (same_place place way m)
