-- Lines that are written part by part, each part from where the one before it ended (`Put`), and what the whole then owes.
-- Assumes nothing.
use Rattle.std.specs.Prelude.{ℕ, ◌≤◌, ◌≡◌, length, take, drop}
use Rattle.std.proofs.Common.{arith, sym, ◌∙◌, length-take-le}
use Rattle.std.proofs.Math.Path.{ap}
use mathlib.Core.List.{List, [], ◌∷◌, ◌++◌, append_assoc}
use Rattle.names.specs.Names.{bytes}
use Rattle.records.specs.declared.Event.{Event}
use Rattle.records.specs.Records.{events_of}
use Rattle.rules.specs.declared.Answer.{Answer}
use Rattle.book.specs.Layout.{activity_count, seat_count, seat_of}
use Rattle.run.specs.Run.{after}
use Rattle.journal.specs.Journal.{refused, outcome}
use Rattle.line.specs.Grammar.{space, newline}
use Rattle.text.specs.Text.{decimal, Put}
use Rattle.text.specs.Laws.{put_same, joined, at_front}
use Rattle.desk.specs.Desk.{line, book_line, event_line, seat_line, refused_book, refused_line, records_most, Judged, worked, listing, of_journal, behind, judged, printed, report_of, left_by, input_after}
use Rattle.desk.specs.Journals.{Taken}

-- a word, a number and the byte that ends it; four numbers
unfoldable pub term : List ℕ → ℕ → ℕ → List ℕ
term word n end = word ++ (space ∷ []) ++ decimal n ++ (end ∷ [])

unfoldable pub fields : ℕ → ℕ → ℕ → ℕ → ℕ → List ℕ
fields a b c d end =
    decimal a ++ (space ∷ []) ++ decimal b ++ (space ∷ []) ++ decimal c ++ (space ∷ []) ++ decimal d ++ (end ∷ [])

-- a line of two, three and four fields, and of eight
module _ (a b c d : List ℕ) where
  two : a ++ (space ∷ []) ++ b ++ (newline ∷ []) ≡ line (a ∷ b ∷ [])
  two = simp append_assoc

  three : (a ++ (space ∷ []) ++ b ++ (space ∷ [])) ++ (c ++ (newline ∷ [])) ≡ line (a ∷ b ∷ c ∷ [])
  three = simp append_assoc

  four : (a ++ (space ∷ []) ++ b ++ (space ∷ [])) ++ (c ++ (space ∷ []) ++ d ++ (newline ∷ [])) ≡ line (a ∷ b ∷ c ∷ d ∷ [])
  four = simp append_assoc

  eight : (e f g h : List ℕ)
      → (a ++ (space ∷ []) ++ b ++ (space ∷ []) ++ c ++ (space ∷ []) ++ d ++ (space ∷ [])) ++ (e ++ (space ∷ []) ++ f ++ (space ∷ []) ++ g ++ (space ∷ []) ++ h ++ (newline ∷ []))
      ≡ line (a ∷ b ∷ c ∷ d ∷ e ∷ f ∷ g ∷ h ∷ [])
  eight e f g h = simp append_assoc

-- texts that are put one after the other
module _ {o p q r s : List ℕ} {at k l m n : ℕ} where
  pub put_fields : (a b c d end : ℕ) → Put o at (decimal a ++ (space ∷ [])) p k → Put p k (decimal b ++ (space ∷ [])) q l
      → Put q l (decimal c ++ (space ∷ [])) r m → Put r m (decimal d ++ (end ∷ [])) s n → Put o at (fields a b c d end) s n
  unfolding fields
  put_fields a b c d end f g h i = put_same (simp append_assoc) (joined (joined (joined f g) h) i)

module _ {o p q r : List ℕ} {at k l m : ℕ} where
  pub put_term : (w : List ℕ) (x end : ℕ) → Put o at w p k → Put p k (space ∷ []) q l → Put q l (decimal x ++ (end ∷ [])) r m → Put o at (term w x end) r m
  unfolding term
  put_term w x end f g h = put_same (sym (append_assoc (w ++ (space ∷ [])) (decimal x) (end ∷ []))) (joined (joined f g) h)

module _ {o p q : List ℕ} {at k l : ℕ} where
  pub put_refused_line : (x y i : ℕ) → y ≡ x → Put o at (term (bytes "refused") y space) p k → Put p k (term (bytes "line") i newline) q l → Put o at (refused_line x i) q l
  unfolding term refused_line
  put_refused_line x y i e f g = put_same (four (bytes "refused") (decimal y) (bytes "line") (decimal i) ∙ ap (λ (z : ℕ). refused_line z i) e) (joined f g)

  pub put_book : (b : List ℕ) (x y : ℕ) → x ≡ activity_count b → y ≡ seat_count b
      → Put o at (term (bytes "book") x space) p k → Put p k (decimal y ++ (newline ∷ [])) q l → Put o at (book_line b) q l
  unfolding term book_line
  put_book b x y e e' f g = put_same (three (bytes "book") (decimal x) (decimal y) [] ∙ (λ j. line (bytes "book" ∷ decimal (e j) ∷ decimal (e' j) ∷ []))) (joined f g)

  pub put_seat : (b : List ℕ) (i x : ℕ) → x ≡ (seat_of b i).state
      → Put o at (term (bytes "seat") i space) p k → Put p k (decimal x ++ (newline ∷ [])) q l → Put o at (seat_line b i) q l
  unfolding term seat_line
  put_seat b i x e f g = put_same (three (bytes "seat") (decimal i) (decimal x) [] ∙ ap (λ (z : ℕ). line (bytes "seat" ∷ decimal i ∷ decimal z ∷ [])) e) (joined f g)

  pub put_event : (i : ℕ) (e : Event) (a : Answer) (x y z t u v : ℕ) → x ≡ e.way → y ≡ e.message → z ≡ a.refusal → t ≡ a.state → u ≡ a.action → v ≡ a.reply
      → Put o at (fields i e.seat x y space) p k → Put p k (fields z t u v newline) q l → Put o at (event_line i e a) q l
  unfolding fields event_line
  put_event i e a x y z t u v ex ey ez et eu ev f g =
      put_same (eight (decimal i) (decimal e.seat) (decimal x) (decimal y) (decimal z) (decimal t) (decimal u) (decimal v)
      ∙ (λ j. line (decimal i ∷ decimal e.seat ∷ decimal (ex j) ∷ decimal (ey j) ∷ decimal (ez j) ∷ decimal (et j) ∷ decimal (eu j) ∷ decimal (ev j) ∷ [])))
      (joined f g)

module _ {o p : List ℕ} {at k : ℕ} where
  pub put_refused_book : (x y : ℕ) → y ≡ x → Put o at (term (bytes "refused") y newline) p k → Put o at (refused_book x) p k
  unfolding term refused_book
  put_refused_book x y e f = put_same (two (bytes "refused") (decimal y) [] [] ∙ ap refused_book e) f

-- a journal behind a good book of `size` bytes
module _ (input out out' : List ℕ) (n size : ℕ) where
  pub journal_refused : (number line : ℕ) → outcome (drop size input) records_most ≡ refused number line → Put out 0 (refused_line number line) out' n
      → (Put out 0 (printed (behind input size)) out' n) × (input ≡ left_by input (behind input size))
  journal_refused number line e p =
      let w = ap (of_journal (take size input)) e in (put_same (ap printed (sym w)) p, ap (left_by input) (sym w))

  pub journal_worked : (k : ℕ) (ev input' : List ℕ) → size ≤ length input → Taken (drop size input) k ev
      → Put out 0 (listing (take size input) (events_of ev)) out' n → input' ≡ after (take size input) (events_of ev) ++ drop size input
      → (Put out 0 (printed (behind input size)) out' n) × (input' ≡ left_by input (behind input size))
  journal_worked k ev input' h t p q =
      let w : behind input size ≡ worked (take size input) (events_of ev) =
      ap (of_journal (take size input)) t.is ∙ ap (worked (take size input)) (sym t.back)
      in
      (put_same (ap printed (sym w)) p, q ∙ ap (λ (i : ℕ). after (take size input) (events_of ev) ++ drop i input) (sym (length-take-le size input h)) ∙ ap (left_by input) (sym w))

-- what the whole owes
pub reported : (input input' out out' : List ℕ) (n : ℕ) (come : Judged) → judged input ≡ come → Put out 0 (printed come) out' n → input' ≡ left_by input come
    → (n ≡ length (report_of input)) × ((n ≤ length out) × ((out' ≡ report_of input ++ drop (length (report_of input)) out) × (input' ≡ input_after input)))
unfolding report_of input_after
reported input input' out out' n come e p q =
    let r : Put out 0 (report_of input) out' n = put_same (ap printed (sym e)) p in
    (omega (arith, r.end), (omega (arith, r.end, r.room), (at_front r, q ∙ ap (left_by input) (sym e))))
