-- What `journal::read` returns is determined by the reading: no two refusals have one number, and none has 0.
-- Assumes nothing.
use Rattle.std.specs.Prelude.{ℕ, ◌-◌, ◌≤◌, ◌≡◌, refl, Result, Ok, Err, [], ◌∷◌}
use Rattle.std.proofs.Common.{arith, ap, get_or}
use Rattle.lemmas.specs.Single.{single_by}
use Rattle.line.specs.declared.Refusal.TheVariants.{Long, Seat, Way, Name}
use Rattle.journal.specs.Journal.{Reading, number, told}
use Rattle.journal.specs.declared.Refusal.{Refusal}
use Rattle.journal.specs.declared.Refusal.TheVariants.{Line, Room, TextLong}
use Rattle.journal.specs.declared.Refused.{Refused}

unfoldable refusal_at : ℕ → Refusal
refusal_at n = get_or (Line Long ∷ Line Seat ∷ Line Way ∷ Line Name ∷ Room ∷ TextLong ∷ []) (n - 21) Room

refusal_back : (r : Refusal) → refusal_at (number r) ≡ r
unfolding refusal_at
refusal_back (Line Long) = refl
refusal_back (Line Seat) = refl
refusal_back (Line Way) = refl
refusal_back (Line Name) = refl
refusal_back Room = refl
refusal_back TextLong = refl

pub refusal_single : (r s : Refusal) → number r ≡ number s → r ≡ s
refusal_single = single_by number refusal_at refusal_back

-- each refusal has one of the numbers 21 to 26
pub number_range : (r : Refusal) → (21 ≤ number r) × (number r ≤ 26)
number_range (Line Long) = (omega arith, omega arith)
number_range (Line Seat) = (omega arith, omega arith)
number_range (Line Way) = (omega arith, omega arith)
number_range (Line Name) = (omega arith, omega arith)
number_range Room = (omega arith, omega arith)
number_range TextLong = (omega arith, omega arith)

same_refused : (e f : Refused) → e.refusal ≡ f.refusal → e.line ≡ f.line → e ≡ f
same_refused e f p q = λ j. record { refusal = p j; line = q j }

pub told_single : (a b : Result ℕ Refused) → told a ≡ told b → a ≡ b
told_single (Ok n) (Ok m) h = ap Ok (ap (λ (r : Reading). r.count) h)
told_single (Ok n) (Err f) h = absurd (omega (arith, ap (λ (r : Reading). r.refusal) h, number_range f.refusal))
told_single (Err e) (Ok m) h = absurd (omega (arith, ap (λ (r : Reading). r.refusal) h, number_range e.refusal))
told_single (Err e) (Err f) h =
    ap Err (same_refused e f (refusal_single e.refusal f.refusal (ap (λ (r : Reading). r.refusal) h)) (ap (λ (r : Reading). r.line) h))
