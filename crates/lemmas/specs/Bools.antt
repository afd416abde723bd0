-- Facts on Bools that library modules lack.
-- Assumes nothing.
use Rattle.std.specs.Prelude.{◌≡◌, refl, Bool, true, false, not, cond, ◌&&◌, ◌||◌, ◌⊎◌, ◌≤◌, T}
use Rattle.std.proofs.lemmas.Bool.{false≢true}
use Rattle.std.proofs.Common.{inl, inr, arith}
use mir.Val.{bool_byte}

pub both : (a b : Bool) → (a && b) ≡ true → (a ≡ true) × (b ≡ true)
both true b h = (refl, h)
both false b h = absurd (false≢true h)

pub both_of : {a b : Bool} → a ≡ true → b ≡ true → (a && b) ≡ true
both_of h k = simp (h, k)

pub either : (a b : Bool) → (a || b) ≡ true → (a ≡ true) ⊎ (b ≡ true)
either true b h = inl refl
either false b h = inr h

-- an implication, written as a test
pub implied : (a b : Bool) → (not a || b) ≡ true → a ≡ true → b ≡ true
implied true b h e = h
implied false b h e = absurd (false≢true e)

pub cases : (a : Bool) → (a ≡ true) ⊎ (a ≡ false)
cases true = inl refl
cases false = inr refl

pub T_is : (a : Bool) → T a → a ≡ true
T_is true t = refl
T_is false t = absurd t

-- the test that two Bools are the same
abbrev pub same : Bool → Bool → Bool
same true b = b
same false b = not b

pub same_is : (a b : Bool) → T (same a b) → a ≡ b
same_is true true t = refl
same_is true false t = absurd t
same_is false true t = absurd t
same_is false false t = refl

-- a Bool that can't be true
pub never_true : (a : Bool) → (a ≡ true → ⊥) → a ≡ false
never_true true n = absurd (n refl)
never_true false n = refl

-- a Bool as a number
pub as_number : (t : Bool) → bool_byte t ≡ cond t 1 0
as_number true = refl
as_number false = refl

pub at_most_one : (t : Bool) → bool_byte t ≤ 1
at_most_one true = omega arith
at_most_one false = omega arith
