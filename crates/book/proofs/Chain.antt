-- A book that is not refused is good (specs/Good.antt has what that is, and the converse, `good_to`).
-- The argument: book_refusal is `chain` of the five tests, and that is 0 only where each of them passes.
-- Assumes nothing.
use Rattle.std.proofs.Common.{◌≡◌, refl, Bool, false, List, ℕ, length, ltb, arith, ltb-false, true}
use Rattle.book.specs.Layout.{head_size}
use Rattle.book.specs.Book.{head_good, activities_good, seats_good, directions_good, book_refusal}
use Rattle.book.specs.Good.{Good, chain}

unchain : (l h a s d : Bool) → chain l h a s d ≡ 0 → (l ≡ false) × (h ≡ true) × (a ≡ true) × (s ≡ true) × (d ≡ true)
unchain false true true true true e = (refl, refl, refl, refl, refl)
unchain false true true true false e = absurd (omega arith)
unchain false true true false d e = absurd (omega arith)
unchain false true false s d e = absurd (omega arith)
unchain false false a s d e = absurd (omega arith)
unchain true h a s d e = absurd (omega arith)

pub good_of : (b : List ℕ) → book_refusal b ≡ 0 → Good b
unfolding book_refusal
good_of b e =
    let u = unchain (ltb (length b) head_size) (head_good b) (activities_good b) (seats_good b) (directions_good b) e in
    record { long = ltb-false _ _ u.0; head = u.1; activities = u.2; seats = u.3; directions = u.4 }
