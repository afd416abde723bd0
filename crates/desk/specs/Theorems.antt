-- What the contract of `desk::report` comes to: one report, and how much of an input can matter to it.
-- The argument of the second: a header that asks for more than the longest book is refused 2, whether the input ends before that book
-- or not; behind a good book there is then more than the longest journal, which is refused 26.
-- Assumes nothing.
use Rattle.std.specs.Prelude.{ℕ, ◌+◌, ◌*◌, ◌≤◌, ◌<◌, ◌≡◌, refl, false, List, ◌++◌, length, take, drop}
use Rattle.std.proofs.Common.{arith, sym, ap, ◌∙◌, ⊎_elim, length-drop, length-take-le, take_all, take-take, le-ltb, lt-ltb, eq-eqb, ne_eqb}
use Rattle.std.proofs.Math.Seq.{get_or-take}
use Rattle.lemmas.specs.Bools.{never_true}
use Rattle.lemmas.specs.Orders.{same_or, below_or}
use Rattle.records.specs.Records.{at16}
use Rattle.book.specs.Layout.{head_size, activity_size, seat_size, most_activities, most_seats, size_of}
use Rattle.book.specs.Book.{head_good, book_refusal}
use Rattle.book.specs.Good.{shaped}
use Rattle.book.proofs.Chain.{good_of}
use Rattle.journal.specs.Journal.{refused, outcome}
use Rattle.desk.specs.Desk.{records_most, of_journal, of_book, judged, printed, report_of, input_after}
use Rattle.desk.specs.Ends.{cut_off, of_book_lem}

-- the contract allows one length, one text and one input afterwards
pub one_report : (input out : List ℕ) (r r' : ℕ) (o o' i i' : List ℕ)
    → (r ≡ length (report_of input)) × (o ≡ report_of input ++ drop (length (report_of input)) out) × (i ≡ input_after input)
    → (r' ≡ length (report_of input)) × (o' ≡ report_of input ++ drop (length (report_of input)) out) × (i' ≡ input_after input)
    → (r ≡ r') × (o ≡ o') × (i ≡ i')
one_report input out r r' o o' i i' p q = (p.0 ∙ sym q.0, p.1 ∙ sym q.1, p.2 ∙ sym q.2)

-- the longest book and the longest journal
abbrev pub book_most : ℕ
book_most = head_size + activity_size * most_activities + seat_size * most_seats

abbrev pub text_most : ℕ
text_most = 65536

long_book : (b : List ℕ) → book_most < length b → book_refusal b ≡ 2
unfolding book_refusal
long_book b h =
    let f : head_good b ≡ false = never_true (head_good b) (λ g. let s = shaped b g in omega (arith, s.len, s.acts, s.seats)) in
    rw (le-ltb (length b) head_size (omega arith), f)

long_text : (text : List ℕ) (area : ℕ) → text_most < length text → outcome text area ≡ refused 26 0
unfolding outcome
long_text text area h = rw (lt-ltb text_most (length text) h)

-- two journals behind the same book that come to the same where the book is good
same_journal : (b t u : List ℕ) → (book_refusal b ≡ 0 → outcome t records_most ≡ outcome u records_most) → of_book b t ≡ of_book b u
same_journal b t u h =
    ⊎_elim (λ (z : book_refusal b ≡ 0). rw (eq-eqb (book_refusal b) 0 z) (ap (of_journal b) (h z))) (λ ne. rw (ne_eqb (book_refusal b) 0 ne))
    (same_or (book_refusal b) 0)

-- an input, and its first k bytes, which are more than a book and a journal can have
module _ (input : List ℕ) (k : ℕ) (most : book_most + text_most < k) (more : k ≤ length input) where
  abbrev first : List ℕ
  first = take k input

  abbrev size : ℕ
  size = size_of input

  first_length : length (take k input) ≡ k
  first_length = length-take-le k input more

  header : (i : ℕ) → i + 1 < head_size → at16 (take k input) i ≡ at16 input i
  unfolding at16
  header i h = rw (get_or-take k input i 0 (omega arith), get_or-take k input (i + 1) 0 (omega arith))

  same_size : size_of input ≡ size_of (take k input)
  same_size = rw (header 0 (omega arith), header 2 (omega arith))

  judged_long : k < size → judged (take k input) ≡ judged input
  judged_long h =
      cut_off (take k input) (omega (arith, first_length)) size same_size (omega (arith, first_length))
      ∙ sym (⊎_elim (λ (l : length input < size). cut_off input (omega arith) size refl l)
      (λ l. of_book_lem input (omega arith) size refl l ∙ rw (long_book (take size input) (omega (arith, length-take-le size input l))))
      (below_or (length input) size))

  judged_whole : size ≤ k → judged (take k input) ≡ judged input
  judged_whole h =
      of_book_lem (take k input) (omega (arith, first_length)) size same_size (omega (arith, first_length))
      ∙ ap (λ (b : List ℕ). of_book b (drop size (take k input))) (take-take size k input h)
      ∙ same_journal (take size input) (drop size (take k input)) (drop size input) both_long
      ∙ sym (of_book_lem input (omega arith) size refl (omega arith))
    where
      both_long : book_refusal (take size input) ≡ 0 → outcome (drop size (take k input)) records_most ≡ outcome (drop size input) records_most
      both_long z =
          let s = shaped (take size input) (good_of (take size input) z).head in
          let l : length (take size input) ≤ book_most = omega (arith, s.len, s.acts, s.seats) in
          let n = length-take-le size input (omega arith) in
          long_text _ records_most (omega (arith, length-drop size (take k input), first_length)) ∙ sym (long_text _ records_most (omega (arith, length-drop size input)))

  judged_first : judged (take k input) ≡ judged input
  judged_first = ⊎_elim judged_long judged_whole (below_or k size)

-- so a program may stop reading after the longest book, the longest journal and one byte
abbrev pub input_most : ℕ
input_most = book_most + text_most + 1

enough : (k : ℕ) → book_most + text_most < k → (input : List ℕ) → report_of (take k input) ≡ report_of input
unfolding report_of
enough k h input =
    ⊎_elim (λ (l : length input < k). ap report_of (take_all k input (omega arith))) (λ l. ap printed (judged_first input k h l))
    (below_or (length input) k)

pub read_enough : (input : List ℕ) → report_of (take input_most input) ≡ report_of input
read_enough input = enough input_most (omega arith) input
