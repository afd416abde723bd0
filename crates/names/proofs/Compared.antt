-- `same` of two lists that are compared from the front, byte by byte. Assumes nothing.
use Rattle.std.proofs.Common.{ℕ, suc, ◌+◌, ◌<◌, ◌≤◌, add-one, ◌≡◌, refl, ap, true, false, List, [], ◌∷◌, eqb, length, get_or, drop, drop_of_length-le, drop-cons, eq-eqb, ne_eqb}
use mathlib.Core.Bool.{and-false}
use Rattle.names.specs.Names.{same}

pub same_lengths : (a b : List ℕ) → (length a ≡ length b → ⊥) → same a b ≡ false
same_lengths [] [] h = absurd (h refl)
same_lengths [] (y ∷ b) h = refl
same_lengths (x ∷ a) [] h = refl
same_lengths (x ∷ a) (y ∷ b) h = rw (same_lengths a b (λ e. h (ap suc e))) (and-false (eqb x y))

-- the first elements that are left differ, or are the same
module _ (a b : List ℕ) (i : ℕ) (p : i < length a) (q : i < length b) where
  pub same_stop : (get_or a i 0 ≡ get_or b i 0 → ⊥) → same (drop i a) (drop i b) ≡ false
  same_stop n = rw (drop-cons a i 0 p, drop-cons b i 0 q, ne_eqb _ _ n)

  pub same_on : get_or a i 0 ≡ get_or b i 0 → same (drop i a) (drop i b) ≡ same (drop (i + 1) a) (drop (i + 1) b)
  same_on e = rw (drop-cons a i 0 p, drop-cons b i 0 q, eq-eqb _ _ e, add-one)

pub same_end : (a b : List ℕ) (i : ℕ) → length a ≤ i → length b ≤ i → same (drop i a) (drop i b) ≡ true
same_end a b i p q = rw (drop_of_length-le a p, drop_of_length-le b q)
