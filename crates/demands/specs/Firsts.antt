-- Refusals in an order: the number of the first test that applies, or 0; and what it is to be the first.
-- Assumes nothing.
use Rattle.std.specs.Prelude.{◌≡◌, refl, Bool, true, false, cond, List, [], ◌∷◌, ℕ}
use Rattle.std.proofs.Common.{sym, subst}

pub record Test : Type 0 where
  pub number : ℕ
  pub applies : Bool

abbrev pub test : ℕ → Bool → Test
test n t = record { number = n; applies = t }

abbrev pub first : List Test → ℕ
first [] = 0
first (t ∷ ts) = cond t.applies t.number (first ts)

-- test n applies and no earlier one does
pub data First : List Test → ℕ → Type 0 where
  here : {t : Test} {ts : List Test} → t.applies ≡ true → First (t ∷ ts) t.number
  later : {t : Test} {ts : List Test} {n : ℕ} → t.applies ≡ false → First ts n → First (t ∷ ts) n

-- it is given exactly then
pub given : (ts : List Test) (n : ℕ) → First ts n → first ts ≡ n
given [] n x = elim x [ ]
given (t ∷ ts) n (here h) = simp h
given (t ∷ ts) n (later h f) = simp h (given ts n f)

pub only_then : (ts : List Test) (n : ℕ) → first ts ≡ n → (n ≡ 0 → ⊥) → First ts n
only_then [] n e nz = absurd (nz (sym e))
only_then (t ∷ ts) n e nz = at t.applies refl (only_then ts n) where
  at : (a : Bool) → t.applies ≡ a → (first ts ≡ n → (n ≡ 0 → ⊥) → First ts n) → First (t ∷ ts) n
  at true h f = subst (λ (m : ℕ). First (t ∷ ts) m) (simp h at e) (here h)
  at false h f = later h (f (simp h at e) nz)
