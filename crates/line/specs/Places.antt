-- Where a byte first stands in a list, byte by byte from the front, and in the list's own front.
-- Assumes nothing.
use Rattle.std.specs.Prelude.{◌≡◌, ℕ, zero, suc, ◌+◌, ◌-◌, ◌<◌, ◌≤◌, min, Bool, true, false, cond, List, [], ◌∷◌, ◌++◌, length, take, drop, ◌==◌, ◌≢◌, slice_index, refl}
use Rattle.std.proofs.Common.{arith, le_of_eq, add-one, ap, length-drop, drop_of_length-le, drop-cons, take_all, eq-eqb, ne_eqb}
use Rattle.line.specs.Grammar.{index_of}

module _ (b : ℕ) (s : List ℕ) (i : ℕ) where
  pub index_end : length s ≤ i → index_of b (drop i s) ≡ 0
  index_end p = rw (drop_of_length-le s p)

  pub index_here : i < length s → slice_index s i ≡ b → index_of b (drop i s) ≡ 0
  index_here p e = rw (drop-cons s i 0 p, eq-eqb _ _ e)

  pub index_on : i < length s → (slice_index s i ≢ b) → index_of b (drop i s) ≡ suc (index_of b (drop (i + 1) s))
  index_on p n = rw (drop-cons s i 0 p, ne_eqb _ _ n, add-one)

-- in a list's front it stands where it stands in the list, or the front ends before it
take_step : (t : Bool) (i j n : ℕ) → i ≡ min n j → cond t 0 (suc i) ≡ min (suc n) (cond t 0 (suc j))
take_step true i j n h = omega arith
take_step false i j n h = omega arith

pub index_take : (b n : ℕ) (l : List ℕ) → index_of b (take n l) ≡ min n (index_of b l)
index_take b zero l = omega arith
index_take b (suc n) [] = omega arith
index_take b (suc n) (x ∷ l) = take_step (x == b) (index_of b (take n l)) (index_of b l) n (index_take b n l)

-- what is added behind does not move it
append_step : (t : Bool) (i j m : ℕ) → (i < m → j ≡ i) → cond t 0 (suc i) < suc m → cond t 0 (suc j) ≡ cond t 0 (suc i)
append_step true i j m f h = refl
append_step false i j m f h = ap suc (f (omega arith))

pub index_append : (b : ℕ) (l m : List ℕ) → index_of b l < length l → index_of b (l ++ m) ≡ index_of b l
index_append b [] m h = absurd (omega arith)
index_append b (x ∷ l) m h = append_step (x == b) (index_of b l) (index_of b (l ++ m)) (length l) (index_append b l m) h

-- and no place is past the length
within_step : (t : Bool) (i m : ℕ) → i ≤ m → cond t 0 (suc i) ≤ suc m
within_step true i m h = omega arith
within_step false i m h = omega arith

pub index_within : (b : ℕ) (l : List ℕ) → index_of b l ≤ length l
index_within b [] = omega arith
index_within b (x ∷ l) = within_step (x == b) (index_of b l) (length l) (index_within b l)

-- the code's part of a list from a place to its end
pub tail : (n : ℕ) (l : List ℕ) → take (length l - n) (drop n l) ≡ drop n l
tail n l = take_all (length l - n) (drop n l) (le_of_eq (length-drop n l))
