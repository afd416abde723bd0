-- The ends of the desk: what an input comes to on each way through it, and what is then left of the input.
-- Assumes nothing.
use Rattle.std.specs.Prelude.{ℕ, Option, None, Some, Err, ok_or, ◌%◌, ◌≤◌, ◌<◌, ◌≡◌, List, ◌++◌, length, take, drop}
use Rattle.std.proofs.Common.{arith, sym, ap, ◌∙◌, length-take-le}
use borrow.Author.Tests.{lt-ltb, le-ltb, eq-eqb, ne_eqb}
use Rattle.book.specs.declared.Refusal.{Refusal as BookRefusal}
use Rattle.book.specs.declared.Refusal.TheVariants.{Short}
use Rattle.book.specs.Layout.{head_size, size_of}
use Rattle.book.specs.Book.{book_refusal, headed, number}
use Rattle.records.specs.Records.{events_of}
use Rattle.run.specs.Run.{after}
use Rattle.journal.specs.Journal.{refused, outcome, number as journal_number}
use Rattle.text.specs.Text.{number_most}
use Rattle.desk.specs.declared.Refusal.{Refusal}
use Rattle.desk.specs.declared.Refusal.TheVariants.{Book, Journal}
use Rattle.desk.specs.declared.Work.{Work}
use Rattle.desk.specs.Desk.{bad_journal, records_most, Judged, bad_book, worked, of_journal, of_book, behind, judged, left_by, input_after}
use Rattle.desk.specs.Journals.{Taken}

-- no refusal has the number of a good book
pub refusal_some : (r : BookRefusal) → number r ≡ 0 → ⊥
refusal_some r = grind arith

-- bytes that have no header, and those that have one
pub no_head : (b : List ℕ) → None ≡ headed b → length b < head_size
no_head b e = grind arith

pub some_head : (b h : List ℕ) → Some h ≡ headed b → (head_size ≤ length b) × (size_of h ≡ size_of b)
some_head b h e = grind arith

module _ (input : List ℕ) where
  pub too_short : length input < head_size → judged input ≡ bad_book 1
  unfolding judged
  too_short h = rw (lt-ltb _ _ h)

  module _ (long : head_size ≤ length input) (size : ℕ) (is : size ≡ size_of input) where
    pub cut_off : length input < size → judged input ≡ bad_book 2
    unfolding judged
    cut_off h = rw (le-ltb _ _ long, lt-ltb (length input) (size_of input) (omega arith))

    module _ (whole : size ≤ length input) where
      pub of_book_lem : judged input ≡ of_book (take size input) (drop size input)
      unfolding judged
      of_book_lem = rw (le-ltb _ _ long, le-ltb (length input) (size_of input) (omega arith), is)

      pub book_refused : (number : ℕ) → number ≡ book_refusal (take size input) → (number ≡ 0 → ⊥) → judged input ≡ bad_book number
      book_refused number e ne = of_book_lem ∙ rw (ne_eqb (book_refusal (take size input)) 0 (λ z. ne (e ∙ z)), e)

      pub book_good : book_refusal (take size input) ≡ 0 → judged input ≡ behind input size
      book_good e = of_book_lem ∙ rw (eq-eqb (book_refusal (take size input)) 0 e)

-- a journal behind a good book of `size` bytes
module _ (input : List ℕ) (size : ℕ) where
  pub behind_refused : (r line : ℕ) → outcome (drop size input) records_most ≡ refused r line → behind input size ≡ bad_journal r line
  behind_refused r line e = ap (of_journal (take size input)) e

  pub behind_worked : (k : ℕ) (ev : List ℕ) → Taken (drop size input) k ev → behind input size ≡ worked (take size input) (events_of ev)
  behind_worked k ev t = ap (of_journal (take size input)) t.is ∙ ap (worked (take size input)) (sym t.back)

-- what a refusal says of its input, with a line of at most five digits
abbrev pub refused_as : Refusal → Judged
refused_as (Book r) = bad_book (number r)
refused_as (Journal r) = bad_journal (journal_number r.refusal) r.line

abbrev pub LineFits : Refusal → Type 0
LineFits (Book r) = Unit {0}
LineFits (Journal r) = r.line < number_most

pub record Refuses (input : List ℕ) (r : Refusal) : Type 0 where
  pub come : judged input ≡ refused_as r
  pub line : LineFits r

-- a good book, and a journal whose events stand in an area
pub record Works (input area : List ℕ) (w : Work) : Type 0 where
  pub within : w.book ≤ length input
  pub good : book_refusal (take w.book input) ≡ 0
  pub whole : w.events % 4 ≡ 0
  pub room : w.events ≤ records_most
  pub come : judged input ≡ worked (take w.book input) (events_of (take w.events area))

-- what is left of an input: it stays where it is refused, and else its book is the book after the run
module _ (input : List ℕ) where
  pub refused_after : (r : Refusal) → Refuses input r → input ≡ input_after input
  unfolding input_after
  refused_after (Book r) h = ap (left_by input) (sym h.come)
  refused_after (Journal r) h = ap (left_by input) (sym h.come)

  pub worked_after : (area : List ℕ) (w : Work) → Works input area w
      → after (take w.book input) (events_of (take w.events area)) ++ drop w.book input ≡ input_after input
  unfolding input_after
  worked_after area w h =
      ap (λ (k : ℕ). after (take w.book input) (events_of (take w.events area)) ++ drop k input) (sym (length-take-le w.book input h.within))
      ∙ ap (left_by input) (sym h.come)

-- no header
pub refuses_short : (input : List ℕ) (o : Option (List ℕ)) (r : BookRefusal) → Err r ≡ ok_or o Short
    → o ≡ headed input → Refuses input (Book r)
refuses_short input None r e h = let is : r ≡ Short = cc in
    record { come = too_short input (no_head input h) ∙ ap (λ (x : BookRefusal). bad_book (number x)) (sym is); line = tt }
refuses_short input (Some b) r e h = cc

-- a book behind its header: refused, or good
module _ (input b h : List ℕ) (n : ℕ) (some : Some h ≡ headed input) (is : n ≡ size_of h) (whole : n ≤ length input) (e : b ≡ take n input) where
  pub refuses_book : (r : BookRefusal) → number r ≡ book_refusal b → Refuses input (Book r)
  refuses_book r bad =
      let l = some_head input h some in
      record { come = book_refused input l.0 n (is ∙ l.1) whole (number r) (bad ∙ ap book_refusal e) (refusal_some r); line = tt }

  pub good_book : 0 ≡ book_refusal b → (book_refusal (take n input) ≡ 0) × (judged input ≡ behind input n)
  good_book good =
      let l = some_head input h some in
      let z = sym (ap book_refusal e) ∙ sym good in
      (z, book_good input l.0 n (is ∙ l.1) whole z)
