-- A list is cut at its first byte b in one way: bytes that are not b, then b, then any bytes.
-- The argument: b stands behind bytes that are not b (`index_free`), and what stands where it is first found is b (`at_index`).
-- Assumes nothing.
use Rattle.std.specs.Prelude.{◌≡◌, ℕ, suc, ◌+◌, ◌<◌, Bool, true, false, cond, not, ◌&&◌, List, [], ◌∷◌, ◌++◌, length, take, drop, ◌==◌, slice_index, refl}
use Rattle.std.proofs.Common.{arith, add-one, sym, ◌∙◌, ap, length-append, take-suc, eqb-true, eq-eqb, lt-ltb, ltb-true}
use Rattle.std.proofs.Math.Seq.{split_at, take-append_seam, drop-append-add}
use Rattle.std.proofs.lemmas.Bool.{not-true}
use Rattle.lemmas.specs.Bools.{both, both_of}
use Rattle.line.specs.Grammar.{index_of, has, before, after}

-- no byte of l is b
abbrev pub free : ℕ → List ℕ → Bool
free b [] = true
free b (x ∷ l) = not (x == b) && free b l

-- two lists without b, joined, are without b
pub free_append : (b : ℕ) (l m : List ℕ) → free b l ≡ true → free b m ≡ true → free b (l ++ m) ≡ true
free_append b [] m h k = k
free_append b (x ∷ l) m h k = let w = both (not (x == b)) (free b l) h in both_of w.0 (free_append b l m w.1 k)

module _ (b : ℕ) (m : List ℕ) where
  -- behind bytes that are not b, b is found at once
  pub index_free : (l : List ℕ) → free b l ≡ true → index_of b (l ++ b ∷ m) ≡ length l
  index_free [] h = rw (eq-eqb b b refl)
  index_free (x ∷ l) h = let w = both (not (x == b)) (free b l) h in rw (not-true (x == b) w.0) (ap suc (index_free l w.1))

  -- so the list has b, the bytes before it are those, and the bytes after it are the others
  pub has_free : (l : List ℕ) → free b l ≡ true → has b (l ++ b ∷ m) ≡ true
  has_free l h = lt-ltb (index_of b (l ++ b ∷ m)) (length (l ++ b ∷ m)) (omega (arith, index_free l h, length-append l (b ∷ m)))

  pub before_free : (l : List ℕ) → free b l ≡ true → before b (l ++ b ∷ m) ≡ l
  before_free l h = ap (λ (i : ℕ). take i (l ++ b ∷ m)) (index_free l h) ∙ take-append_seam l (b ∷ m)

  pub after_free : (l : List ℕ) → free b l ≡ true → after b (l ++ b ∷ m) ≡ m
  after_free l h = ap (λ (i : ℕ). drop (i + 1) (l ++ b ∷ m)) (index_free l h) ∙ drop-append-add l (b ∷ m) 1

-- what stands at the first place of b is b
at_step : (t : Bool) (b x i : ℕ) (l : List ℕ) → (x == b) ≡ t → (i < length l → slice_index l i ≡ b) → cond t 0 (suc i) < suc (length l)
    → slice_index (x ∷ l) (cond t 0 (suc i)) ≡ b
at_step true b x i l e f h = eqb-true x b e
at_step false b x i l e f h = f (omega arith)

at_index : (b : ℕ) (l : List ℕ) → index_of b l < length l → slice_index l (index_of b l) ≡ b
at_index b [] h = absurd (omega arith)
at_index b (x ∷ l) h = at_step (x == b) b x (index_of b l) l refl (at_index b l) h

-- so a list that has b is what stands before its first b, then b, then what stands after it
pub cut : (b : ℕ) (l : List ℕ) → has b l ≡ true → l ≡ before b l ++ b ∷ after b l
cut b l h =
    let w : index_of b l < length l = ltb-true (index_of b l) (length l) h in
    split_at l (index_of b l) 0 w
    ∙ (λ j. take (index_of b l) l ++ at_index b l w j ∷ drop (sym (add-one (index_of b l)) j) l)

-- and its front up to b, with b
pub cut_front : (b : ℕ) (l : List ℕ) → index_of b l < length l → take (suc (index_of b l)) l ≡ before b l ++ (b ∷ [])
cut_front b l w = take-suc l (index_of b l) 0 w ∙ ap (λ (x : ℕ). take (index_of b l) l ++ (x ∷ [])) (at_index b l w)
