-- A test at each number of a range: antt computes it once, and it holds at each.
-- Assumes nothing.
use Rattle.std.proofs.Common.{subst, ⊎_elim, eq-or-lt_of_le, arith}
use Rattle.std.specs.Prelude.{Bool, true, ◌&&◌, ℕ, zero, suc, ◌+◌, ◌≤◌, ◌<◌, T}
use Rattle.std.proofs.Math.Facts.{and_yes}

-- f passes at each of the n numbers from i
abbrev pub each : (ℕ → Bool) → ℕ → ℕ → Bool
each f i zero = true
each f i (suc n) = f i && each f (suc i) n

pub each_at : (f : ℕ → Bool) (n i : ℕ) → T (each f i n) → (k : ℕ) → i ≤ k → k < i + n → T (f k)
each_at f zero i t k h l = absurd (omega arith)
each_at f (suc n) i t k h l =
    let p = and_yes (f i) (each f (suc i) n) t in
    ⊎_elim (λ e. subst (λ (m : ℕ). T (f m)) e p.0) (λ g. each_at f n (suc i) p.1 k g (omega arith)) (eq-or-lt_of_le h)
