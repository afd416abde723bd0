-- How cases are worked by steps of a closure: one after the other, up to the first that is not there or to the last that may be.
-- Assumes nothing.
use Rattle.std.specs.Prelude.{ℕ, zero, suc, ◌≡◌, ◌⊎◌, Option, Some, None}

-- from one state to the last, from case n on, with so many more at most
unfoldable pub Worked : {F : Type 0} → (F → ℕ → Option (Unit {0}) → F → Type 0) → F → ℕ → ℕ → F → Type 0
Worked step f n zero last = f ≡ last
Worked {F = F} step f n (suc m) last = step f n None last ⊎ ((g : F) × step f n (Some tt) g × Worked step g (suc n) m last)
