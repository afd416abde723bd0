-- What a run returns is determined by its number: no two refusals have one number, and none has 0.
-- Assumes nothing.
use Rattle.std.specs.Prelude.{ℕ, ◌≡◌, refl, Result, Ok, Err, [], ◌∷◌}
use Rattle.std.proofs.Common.{get_or}
use Rattle.lemmas.specs.Single.{single_by}
use Rattle.book.specs.declared.Refusal.TheVariants.{Short, Layout, Activity, Seat, SeatDirection}
use Rattle.run.specs.Codes.{number_of}
use Rattle.run.specs.declared.Refusal.{Refusal}
use Rattle.run.specs.declared.Refusal.TheVariants.{Book, EventList, AnswerArea}

unfoldable worked : ℕ → Result (Unit {0}) Refusal
worked n =
    get_or (Ok tt ∷ Err (Book Short) ∷ Err (Book Layout) ∷ Err (Book Activity) ∷ Err (Book Seat) ∷ Err (Book SeatDirection) ∷ Err EventList ∷ Err AnswerArea ∷ []) n (Ok tt)

worked_back : (a : Result (Unit {0}) Refusal) → worked (number_of a) ≡ a
unfolding worked
worked_back (Ok _) = refl
worked_back (Err (Book Short)) = refl
worked_back (Err (Book Layout)) = refl
worked_back (Err (Book Activity)) = refl
worked_back (Err (Book Seat)) = refl
worked_back (Err (Book SeatDirection)) = refl
worked_back (Err EventList) = refl
worked_back (Err AnswerArea) = refl

pub worked_single : (a b : Result (Unit {0}) Refusal) → number_of a ≡ number_of b → a ≡ b
worked_single = single_by number_of worked worked_back
