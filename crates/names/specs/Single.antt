-- What a field names, and what a number is of, is determined: no two messages have one number, and no two ways.
-- Assumes nothing.
use Rattle.std.specs.Prelude.{ℕ, zero, suc, ◌≡◌, refl, Option, Some, None, Result, Ok, Err, [], ◌∷◌}
use Rattle.std.proofs.Common.{arith, sym, ◌∙◌, ap, get_or}
use Rattle.std.proofs.lemmas.Option.{same_Some}
use Rattle.lemmas.specs.Single.{single_by}
use Rattle.names.specs.Numbers.{message_told, way_told, MessageOf}
use Rattle.names.specs.Laws.{message_range}
use Rattle.names.specs.declared.NoMessage.{NoMessage}
use Rattle.names.specs.declared.Message.{Message}
use Rattle.names.specs.declared.Message.TheVariants.{Cancel, Complete, Close, Compensate, Failed, Exited, NotCompleted, Exit, Completed, Fail, CannotComplete, Canceled, Closed, Compensated}
use Rattle.names.specs.declared.Way.{Way}
use Rattle.names.specs.declared.Way.TheVariants.{Got, Sent}

unfoldable message_of : ℕ → Option Message
message_of zero = None
message_of (suc k) =
    get_or (Some Cancel ∷ Some Complete ∷ Some Close ∷ Some Compensate ∷ Some Failed ∷ Some Exited ∷ Some NotCompleted ∷ Some Exit ∷ Some Completed ∷ Some Fail ∷ Some CannotComplete ∷ Some Canceled ∷ Some Closed ∷ Some Compensated ∷ []) k None

message_back : (a : Option Message) → message_of (message_told a) ≡ a
unfolding message_of
message_back None = refl
message_back (Some Cancel) = refl
message_back (Some Complete) = refl
message_back (Some Close) = refl
message_back (Some Compensate) = refl
message_back (Some Failed) = refl
message_back (Some Exited) = refl
message_back (Some NotCompleted) = refl
message_back (Some Exit) = refl
message_back (Some Completed) = refl
message_back (Some Fail) = refl
message_back (Some CannotComplete) = refl
message_back (Some Canceled) = refl
message_back (Some Closed) = refl
message_back (Some Compensated) = refl

pub message_single : (a b : Option Message) → message_told a ≡ message_told b → a ≡ b
message_single = single_by message_told message_of message_back

-- the message that a record's number is, or the error where it is none
pub number_single : (n : ℕ) (a b : Result Message NoMessage) → MessageOf n a → MessageOf n b → a ≡ b
number_single n (Ok m) (Ok k) p q = ap Ok (same_Some m k (message_single (Some m) (Some k) (p ∙ sym q)))
number_single n (Ok m) (Err e) p q = absurd (omega (arith, p, q.1, message_range m))
number_single n (Err e) (Ok k) p q = absurd (omega (arith, q, p.1, message_range k))
number_single n (Err e) (Err f) p q = let k : e.0 ≡ f.0 = p.0 ∙ sym q.0 in λ j. Err (record { 0 = k j })

unfoldable way_of : ℕ → Option Way
way_of k = get_or (Some Got ∷ Some Sent ∷ []) k None

way_back : (a : Option Way) → way_of (way_told a) ≡ a
unfolding way_of
way_back None = refl
way_back (Some Got) = refl
way_back (Some Sent) = refl

pub way_single : (a b : Option Way) → way_told a ≡ way_told b → a ≡ b
way_single = single_by way_told way_of way_back
