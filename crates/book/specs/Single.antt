-- What a check returns is determined by its number: no two refusals have one number, and none has 0.
-- Assumes nothing.
use Rattle.std.specs.Prelude.{ℕ, ◌≡◌, refl, Result, Ok, Err, [], ◌∷◌}
use Rattle.std.proofs.Common.{get_or}
use Rattle.lemmas.specs.Single.{single_by}
use Rattle.book.specs.Book.{number_of}
use Rattle.book.specs.declared.Refusal.{Refusal}
use Rattle.book.specs.declared.Refusal.TheVariants.{Short, Layout, Activity, Seat, SeatDirection}

unfoldable checked : ℕ → Result (Unit {0}) Refusal
checked n = get_or (Ok tt ∷ Err Short ∷ Err Layout ∷ Err Activity ∷ Err Seat ∷ Err SeatDirection ∷ []) n (Ok tt)

checked_back : (a : Result (Unit {0}) Refusal) → checked (number_of a) ≡ a
unfolding checked
checked_back (Ok _) = refl
checked_back (Err Short) = refl
checked_back (Err Layout) = refl
checked_back (Err Activity) = refl
checked_back (Err Seat) = refl
checked_back (Err SeatDirection) = refl

pub checked_single : (a b : Result (Unit {0}) Refusal) → number_of a ≡ number_of b → a ≡ b
checked_single = single_by number_of checked checked_back
