-- Opening a book: whether there is a header, and which number its refusal has.
-- The argument: two tests, each either way.
-- Assumes nothing.
use Rattle.std.proofs.Common.{◌≡◌, refl, Bool, true, false, cond, not, List, ℕ, length, ltb, Result, Ok, Err, None, Some}
use Rattle.book.specs.declared.Refusal.{Refusal}
use Rattle.book.specs.declared.Refusal.TheVariants.{Short, Layout}
use Rattle.book.specs.Layout.{head_size}
use Rattle.book.specs.Book.{head_good, number, records_refusal, book_refusal, headed, opened}

pub headed_is : (b h : List ℕ) → headed b ≡ Some h → (ltb (length b) head_size ≡ false) × (h ≡ b)
headed_is b h e = at (ltb (length b) head_size) refl e where
  at : (t : Bool) → ltb (length b) head_size ≡ t → cond t None (Some b) ≡ Some h → (ltb (length b) head_size ≡ false) × (h ≡ b)
  at true q e = cc
  at false q e = (q, cc)

-- the number of the refusal, of the book itself or of its records
abbrev pub refused : Result (List ℕ) Refusal → ℕ
refused (Ok b) = records_refusal b
refused (Err r) = number r

pub opened_refusal : (b : List ℕ) → refused (opened b) ≡ book_refusal b
unfolding book_refusal
opened_refusal b = at (ltb (length b) head_size) (head_good b) where
  at : (t u : Bool) → refused (cond t (Err Short) (cond (not u) (Err Layout) (Ok b))) ≡ cond t 1 (cond (not u) 2 (records_refusal b))
  at true u = refl
  at false false = refl
  at false true = refl
