-- What callers need of records: an area that is filled record by record.
-- Assumes nothing.
use Rattle.std.specs.Prelude.{ℕ, zero, suc, ◌+◌, ◌*◌, ◌≡◌, refl, List, [], ◌∷◌, ◌++◌, length, drop}
use Rattle.std.proofs.Common.{arith, mul-suc, add-one, ◌∙◌, append-nil, length-append, take_at, drop-drop}
use Rattle.std.proofs.lemmas.Grind.{flat_map-append}
use Rattle.std.proofs.Math.Seq.{drop-append-add}
use Rattle.records.specs.Records.{placed, flat, event_at, first_events}

-- placed at the end of what is filled: the filled part grows, the rest stays
pub placed_next : (f l xs : List ℕ) (at : ℕ) → length f ≡ at → placed (f ++ drop at l) at xs ≡ f ++ xs ++ drop (at + length xs) l
unfolding placed
placed_next f l xs at h =
    let d : drop (at + length xs) (f ++ drop at l) ≡ drop (at + length xs) l =
    rw (← h) (drop-append-add f (drop (length f) l) (length xs) ∙ drop-drop (length xs) (length f) l)
    in
    rw (take_at f (drop at l) at h, d)

module _ {R : Type 0} (bytes : R → List ℕ) where
  pub flat_append : (xs ys : List R) → flat bytes (xs ++ ys) ≡ flat bytes xs ++ flat bytes ys
  flat_append = flat_map-append bytes

  pub flat_one : (x : R) → flat bytes (x ∷ []) ≡ bytes x
  flat_one x = simp append-nil

  pub length_flat : (w : ℕ) → ((x : R) → length (bytes x) ≡ w) → (xs : List R) → length (flat bytes xs) ≡ w * length xs
  length_flat w each [] = omega arith
  length_flat w each (x ∷ xs) = length-append (bytes x) (flat bytes xs) ∙ rw (each x, length_flat w each xs) (omega (arith, mul-suc w (length xs)))

pub length_first_events : (l : List ℕ) (n : ℕ) → length (first_events l n) ≡ n
length_first_events l zero = refl
length_first_events l (suc n) = length-append (first_events l n) (event_at l n ∷ []) ∙ rw (length_first_events l n, add-one)
