-- What is worked from a case on: it and what follows, it as the last, or nothing.
-- Assumes nothing.
use Rattle.std.proofs.Common.{ℕ, zero, suc, ◌+◌, ◌≡◌, refl, Option, Some, None, inl, inr, add-one}
use Rattle.show.specs.Cases.{Worked}

module _ {F : Type 0} (step : F → ℕ → Option (Unit {0}) → F → Type 0) where
  pub worked_before :
      (f g last : F) (n m k : ℕ) (r : Option (Unit {0})) (u : Unit {0})
      → k ≡ suc m → r ≡ Some u → step f n r g → Worked step g (n + 1) m last → Worked step f n k last
  unfolding Worked
  worked_before f g last n m k r u e i s w = rw e (inr (g, rw i at s, rw add-one at w))

  pub worked_last : (f last : F) (n m k : ℕ) (r : Option (Unit {0})) → k ≡ suc m → r ≡ None → step f n r last → Worked step f n k last
  unfolding Worked
  worked_last f last n m k r e i s = rw e (inl (rw i at s))

  pub worked_all : (f : F) (n k : ℕ) → k ≡ zero → Worked step f n k f
  unfolding Worked
  worked_all f n k e = rw e refl
