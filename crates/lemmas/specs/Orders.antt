-- Two numbers are the same or not, and one is below the other or not.
-- Assumes nothing.
use Rattle.std.specs.Prelude.{◌≡◌, refl, Bool, true, false, ◌≢◌, ◌⊎◌, ℕ, ◌≤◌, ◌<◌, eqb, ltb}
use Rattle.std.proofs.Common.{inl, inr, eqb-true, ltb-true, ltb-false}
use Rattle.std.proofs.lemmas.Bool.{eqb-false}

pub same_or : (m n : ℕ) → (m ≡ n) ⊎ (m ≢ n)
same_or m n = at (eqb m n) refl where
  at : (t : Bool) → eqb m n ≡ t → (m ≡ n) ⊎ (m ≢ n)
  at true e = inl (eqb-true m n e)
  at false e = inr (eqb-false m n e)

pub below_or : (m n : ℕ) → (m < n) ⊎ (n ≤ m)
below_or m n = at (ltb m n) refl where
  at : (t : Bool) → ltb m n ≡ t → (m < n) ⊎ (n ≤ m)
  at true e = inl (ltb-true m n e)
  at false e = inr (ltb-false m n e)
