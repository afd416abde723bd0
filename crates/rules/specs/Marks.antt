-- A number of 64 marks, one for each role, table and state that there may be, and the numbers of marks that the code keeps.
-- The argument: out of range nothing is marked and the rule says no; in range antt computes all 64 marks and compares.
-- Assumes nothing.
use Rattle.std.specs.Prelude.{◌≡◌, ℕ, ◌+◌, ◌-◌, ◌*◌, ◌/◌, ◌%◌, ◌^◌, ◌<◌, ◌≤◌, Bool, true, false, cond, not, ◌&&◌, ◌||◌, T, ◌==◌, nat_eq, nat_le, refl}
use Rattle.std.proofs.Common.{sym, ◌∙◌, ap, arith, leb-true, le-leb, eqb-true, ne_eqb}
use Rattle.std.proofs.lemmas.Bool.{false≢true, eqb-false}
use Rattle.lemmas.specs.Bools.{both, both_of, same, same_is, never_true}
use Rattle.lemmas.specs.Ranges.{each, each_at}
use Rattle.rules.specs.Numbers.{coordinator}
use Rattle.rules.specs.Rules.{last_state, has_state}
use Rattle.rules.specs.Outcome.{needed_by, suits}
use Rattle.rules.specs.Laws.{has_state_lem}
use Rattle.rules.specs.Place.{place_of}

-- a role 1 or 2, a table 1 or 2, a state up to 15
unfoldable pub in_range : ℕ → ℕ → ℕ → Bool
in_range role table s = nat_le 1 role && nat_le role 2 && nat_le 1 table && nat_le table 2 && nat_le s 15

unfoldable pub marked_in : ℕ → ℕ → ℕ → ℕ → Bool
marked_in marks role table s = in_range role table s && marks / 2 ^ place_of role table s % 2 == 1

pub record Ranged (role table s : ℕ) : Type 0 where
  pub role_low : 1 ≤ role
  pub role_high : role ≤ 2
  pub table_low : 1 ≤ table
  pub table_high : table ≤ 2
  pub high : s ≤ 15

pub ranged : (role table s : ℕ) → in_range role table s ≡ true → Ranged role table s
unfolding in_range
ranged role table s h =
    let h₄ = both _ _ h in
    let h₃ = both _ _ h₄.0 in
    let h₂ = both _ _ h₃.0 in
    let h₁ = both _ _ h₂.0 in
    record {
      role_low = leb-true _ _ h₁.0;
      role_high = leb-true _ _ h₁.1;
      table_low = leb-true _ _ h₂.1;
      table_high = leb-true _ _ h₃.1;
      high = leb-true _ _ h₄.1;
    }

pub in_range_lem : {role table s : ℕ} → Ranged role table s → in_range role table s ≡ true
unfolding in_range
in_range_lem r = both_of (both_of (both_of (both_of (le-leb _ _ r.role_low) (le-leb _ _ r.role_high)) (le-leb _ _ r.table_low)) (le-leb _ _ r.table_high)) (le-leb _ _ r.high)

-- nothing is marked but what has a place
pub marked_range : (marks role table s : ℕ) → marked_in marks role table s ≡ true → Ranged role table s
unfolding marked_in
marked_range marks role table s h = ranged role table s (both (in_range role table s) _ h).0

pub unmarked : (marks role table s : ℕ) → (Ranged role table s → ⊥) → marked_in marks role table s ≡ false
unmarked marks role table s n = never_true _ (λ h. n (marked_range marks role table s h))

pub marked_place : (marks role table s : ℕ) → Ranged role table s → marked_in marks role table s ≡ (marks / 2 ^ place_of role table s % 2 == 1)
unfolding marked_in
marked_place marks role table s r = simp (in_range_lem r)

once_round : (x : ℕ) → x < 64 → (x + 64) % 64 ≡ x
once_round x h = omega arith

-- a place counts from the first role and the first table
pub place_counted : (role table s : ℕ) → Ranged role table s → place_of role table s ≡ 32 * (role - 1) + 16 * (table - 1) + s
place_counted role table s i =
    let e : 32 * role + 16 * table + s + 16 ≡ 32 * (role - 1) + 16 * (table - 1) + s + 64 = omega (arith, i.role_low, i.table_low) in
    ap (λ (n : ℕ). n % 64) e ∙ once_round (32 * (role - 1) + 16 * (table - 1) + s) (omega (arith, i.role_high, i.table_high, i.high))

-- marks are a rule of roles, tables and states
module _ (marks : ℕ) (rule : ℕ → ℕ → ℕ → Bool) where
  abbrev at : ℕ → ℕ → ℕ → Bool
  at r t s = same (marks / 2 ^ (32 * r + 16 * t + s) % 2 == 1) (rule (r + 1) (t + 1) s)

  abbrev pub marks_are : Bool
  marks_are = each (λ r. each (λ t. each (λ s. at r t s) 0 16) 0 2) 0 2

  pub marks_are_lem : T marks_are → ((r t s : ℕ) → rule r t s ≡ true → Ranged r t s) → (role table s : ℕ) → marked_in marks role table s ≡ rule role table s
  marks_are_lem test out role table s = by (in_range role table s) refl where
    by : (b : Bool) → in_range role table s ≡ b → marked_in marks role table s ≡ rule role table s
    by true e =
        let i = ranged role table s e in
        let r : (role - 1) + 1 ≡ role = omega arith in
        let t : (table - 1) + 1 ≡ table = omega arith in
        marked_place marks role table s i
        ∙ ap (λ (k : ℕ). nat_eq (marks / 2 ^ k % 2) 1) (place_counted role table s i)
        ∙ same_is _ _
        (each_at (λ s. at (role - 1) (table - 1) s) 16 0
        (each_at (λ t. each (λ s. at (role - 1) t s) 0 16) 2 0
        (each_at (λ r. each (λ t. each (λ s. at r t s) 0 16) 0 2) 2 0 test (role - 1) (omega arith) (omega arith))
        (table - 1) (omega arith) (omega arith))
        s (omega arith) (omega arith))
        ∙ (λ j. rule (r j) (t j) s)
    by false e =
        let no : Ranged role table s → ⊥ = λ i. false≢true (sym e ∙ in_range_lem i) in
        unmarked marks role table s no ∙ sym (never_true _ (λ h. no (out role table s h)))

-- the states of a role under a table
abbrev pub states_marks : ℕ
states_marks = 0xfff61ff6fffe1ffe

state_range : (role table s : ℕ) → has_state role table s ≡ true → Ranged role table s
state_range role table s h = let i = has_state_lem role table s h in record { role_low = i.role_low; role_high = i.role_high; table_low = i.table_low; table_high = i.table_high; high = i.high }

pub states_marked : (role table s : ℕ) → marked_in states_marks role table s ≡ has_state role table s
unfolding has_state last_state
states_marked = marks_are_lem states_marks has_state tt state_range

-- no marks at all
pub none_marked : (role table s : ℕ) → marked_in 0 role table s ≡ false
none_marked = marks_are_lem 0 (λ r t s. false) tt (λ r t s h. absurd (false≢true h))

-- those of them that a seat of an atomic activity may have: a coordinator's suit the direction
abbrev pub suiting_marks : ℕ → ℕ
suiting_marks direction = cond (direction == 1) 0xfff61ff6fd7e1d7e (cond (direction == 2) 0xfff61ff6ffbe1fbe 0xfff61ff6fd3e1d3e)

abbrev pub may_have : ℕ → ℕ → ℕ → ℕ → Bool
may_have direction role table s = has_state role table s && (not (role == coordinator) || suits direction s)

suiting_range : (direction role table s : ℕ) → may_have direction role table s ≡ true → Ranged role table s
suiting_range direction role table s h = state_range role table s (both (has_state role table s) _ h).0

abbrev need : Bool → Bool → Bool → ℕ
need t u v = cond t 1 (cond u 2 (cond v 2 0))

-- a direction that no state needs suits as none does
undirected : (d s : ℕ) → (d == 1) ≡ false → (d == 2) ≡ false → suits 0 s ≡ suits d s
unfolding suits needed_by
undirected d s e f = at (s == 6) (s == 7) (s == 9) where
  one : nat_eq 1 d ≡ false
  one = ne_eqb 1 d (λ h. eqb-false d 1 e (sym h))

  two : nat_eq 2 d ≡ false
  two = ne_eqb 2 d (λ h. eqb-false d 2 f (sym h))

  at : (t u v : Bool) → (need t u v == 0 || need t u v == 0) ≡ (need t u v == 0 || need t u v == d)
  at true u v = simp one
  at false true v = simp two
  at false false true = simp two
  at false false false = refl

pub suiting_marked : (direction role table s : ℕ) → marked_in (suiting_marks direction) role table s ≡ may_have direction role table s
unfolding has_state last_state suits needed_by
suiting_marked direction role table s = at (direction == 1) refl (direction == 2) refl where
  at : (t : Bool) → (direction == 1) ≡ t → (u : Bool) → (direction == 2) ≡ u → marked_in (suiting_marks direction) role table s ≡ may_have direction role table s
  at true e u f = rw e (marks_are_lem 0xfff61ff6fd7e1d7e (may_have 1) tt (suiting_range 1) role table s ∙ ap (λ (d : ℕ). may_have d role table s) (sym (eqb-true direction 1 e)))
  at false e true f = rw (e, f) (marks_are_lem 0xfff61ff6ffbe1fbe (may_have 2) tt (suiting_range 2) role table s ∙ ap (λ (d : ℕ). may_have d role table s) (sym (eqb-true direction 2 f)))
  at false e false f = rw (e, f) (marks_are_lem 0xfff61ff6fd3e1d3e (may_have 0) tt (suiting_range 0) role table s ∙ ap (λ (b : Bool). has_state role table s && (not (role == coordinator) || b)) (undirected direction s e f))
