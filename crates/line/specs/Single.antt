-- What a line says is determined by the grammar's answer: no two refusals have one number.
-- Assumes nothing.
use Rattle.std.specs.Prelude.{ℕ, ◌-◌, ◌≡◌, refl, Result, Ok, Err, [], ◌∷◌}
use Rattle.std.proofs.Common.{ap, get_or}
use Rattle.lemmas.specs.Single.{single_by}
use Rattle.records.specs.declared.Event.{Event}
use Rattle.line.specs.Grammar.{number, told}
use Rattle.line.specs.declared.Refusal.{Refusal}
use Rattle.line.specs.declared.Refusal.TheVariants.{Long, Seat, Way, Name}

unfoldable refusal_of : ℕ → Refusal
refusal_of n = get_or (Long ∷ Seat ∷ Way ∷ Name ∷ []) (n - 21) Long

refusal_back : (r : Refusal) → refusal_of (number r) ≡ r
unfolding refusal_of
refusal_back Long = refl
refusal_back Seat = refl
refusal_back Way = refl
refusal_back Name = refl

pub refusal_single : (r s : Refusal) → number r ≡ number s → r ≡ s
refusal_single = single_by number refusal_of refusal_back

pub told_single : (a b : Result Event Refusal) → told a ≡ told b → a ≡ b
told_single (Ok e) (Ok f) h = let k : e ≡ f = cc in ap Ok k
told_single (Ok e) (Err s) h = cc
told_single (Err r) (Ok f) h = cc
told_single (Err r) (Err s) h = let k : number r ≡ number s = cc in ap Err (refusal_single r s k)
