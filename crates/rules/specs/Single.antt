-- Two results that a contract allows are equal, for each public function: each contract is an equation to a definition, or to the number of a direction.
-- Assumes nothing.
use Rattle.std.specs.Prelude.{◌≡◌, ℕ, Bool, Option, Some, None, refl, [], ◌∷◌}
use Rattle.std.proofs.Common.{sym, ◌∙◌, get_or}
use Rattle.lemmas.specs.Single.{single_by}
use Rattle.rules.specs.declared.Entry.{Entry}
use Rattle.rules.specs.declared.Answer.{Answer}
use Rattle.rules.specs.declared.Refusal.{Refusal}
use Rattle.rules.specs.declared.Direction.{Direction}
use Rattle.rules.specs.declared.Direction.TheVariants.{Close, Compensate}
use Rattle.rules.specs.Codes.{refusal_number, direction_number}
use Rattle.rules.specs.Rules.{has_state, moves, entry_of, answer, answer_of, legal}
use Rattle.rules.specs.Outcome.{asked_by}
use Rattle.rules.specs.Place.{place_of, entry_at}
use Rattle.rules.specs.Marks.{marked_in, suiting_marks}

pub one_result : {A : Type 0} {x r r' : A} → r ≡ x → r' ≡ x → r ≡ r'
one_result p q = p ∙ sym q

-- no two directions have one number
unfoldable direction_of : ℕ → Option Direction
direction_of n = get_or (None ∷ Some Close ∷ Some Compensate ∷ []) n None

direction_back : (r : Option Direction) → direction_of (direction_number r) ≡ r
unfolding direction_of
direction_back None = refl
direction_back (Some Close) = refl
direction_back (Some Compensate) = refl

pub same_direction : (r r' : Option Direction) → direction_number r ≡ direction_number r' → r ≡ r'
same_direction = single_by direction_number direction_of direction_back

module _ (role table way m s : ℕ) (e : Entry) where
  pub has_state_single : (r r' : Bool) → r ≡ has_state role table s → r' ≡ has_state role table s → r ≡ r'
  has_state_single r r' = one_result

  pub moves_message_single : (r r' : Bool) → r ≡ moves role way m → r' ≡ moves role way m → r ≡ r'
  moves_message_single r r' = one_result

  pub entry_at_single : (r r' : Entry) → r ≡ entry_of role table way m s → r' ≡ entry_of role table way m s → r ≡ r'
  entry_at_single r r' = one_result

  pub answer_of_single : (r r' : Answer) → r ≡ answer_of e s → r' ≡ answer_of e s → r ≡ r'
  answer_of_single r r' = one_result

  pub refused_single : (f : Refusal) (r r' : Answer) → r ≡ answer (refusal_number f) s 0 0 → r' ≡ answer (refusal_number f) s 0 0 → r ≡ r'
  refused_single f r r' = one_result

  pub place_single : (r r' : ℕ) → r ≡ place_of role table s → r' ≡ place_of role table s → r ≡ r'
  place_single r r' = one_result

  pub is_listed_single : (place : ℕ) (r r' : Bool) → r ≡ legal (entry_at place way m) → r' ≡ legal (entry_at place way m) → r ≡ r'
  is_listed_single place r r' = one_result

  pub placed_entry_single : (place : ℕ) (r r' : Entry) → r ≡ entry_at place way m → r' ≡ entry_at place way m → r ≡ r'
  placed_entry_single place r r' = one_result

  pub marked_single : (marks : ℕ) (r r' : Bool) → r ≡ marked_in marks role table s → r' ≡ marked_in marks role table s → r ≡ r'
  marked_single marks r r' = one_result

  pub suiting_single : (d r r' : ℕ) → r ≡ suiting_marks d → r' ≡ suiting_marks d → r ≡ r'
  suiting_single d r r' = one_result

  pub direction_asked_single : (r r' : ℕ) → r ≡ asked_by m → r' ≡ asked_by m → r ≡ r'
  direction_asked_single r r' = one_result

  pub direction_asked_one : (r r' : Option Direction) → direction_number r ≡ asked_by m → direction_number r' ≡ asked_by m → r ≡ r'
  direction_asked_one r r' p q = same_direction r r' (one_result p q)
