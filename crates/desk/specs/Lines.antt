-- The parts that the code writes make the lines, and one more line in a loop is one more event, or one more seat.
-- Assumes nothing.
use Rattle.std.specs.Prelude.{ℕ, zero, suc, ◌+◌, ◌*◌, ◌≤◌, ◌<◌, ◌≡◌, refl, length, take, map, get_or}
use Rattle.std.proofs.Common.{arith, add-one, sym, ◌∙◌}
use Rattle.std.proofs.Math.Path.{ap}
use Rattle.std.proofs.lemmas.List.{take_more}
use mathlib.Core.List.{List, [], ◌∷◌, ◌++◌, append_assoc, append-nil}
use Rattle.names.specs.Names.{bytes}
use Rattle.records.specs.declared.Event.{Event}
use Rattle.records.specs.Records.{at16, event_at, first_events}
use Rattle.records.specs.Laws.{flat_append, flat_one, length_first_events}
use Rattle.rules.specs.declared.Answer.{Answer}
use Rattle.rules.specs.Rules.{answer}
use Rattle.book.specs.Layout.{activity_count, seat_count, seat_of}
use Rattle.run.specs.Step.{answer_at}
use Rattle.demands.specs.Groups.{first_answers}
use Rattle.line.specs.Grammar.{space, newline}
use Rattle.text.specs.Text.{number_most, decimal}
use Rattle.desk.specs.Desk.{line, spaced, ending, book_line, event_line, event_lines, seat_line, refused_book, refused_line}

-- a field, and the numbers that end its line; one more of these
pub line_ending : (f ns : List ℕ) → f ++ ending ns ≡ line (f ∷ map decimal ns)
unfolding ending
line_ending f [] = refl
line_ending f (n ∷ ns) = ap (λ (l : List ℕ). f ++ (space ∷ l)) (append_assoc (decimal n) (spaced ns) (newline ∷ []) ∙ line_ending (decimal n) ns)

pub spaced_more : (ns : List ℕ) (i : ℕ) → i < length ns → spaced (take i ns) ++ (space ∷ decimal (get_or ns i 0)) ≡ spaced (take (i + 1) ns)
spaced_more ns i h =
    ap (λ (l : List ℕ). spaced (take i ns) ++ l) (sym (flat_one (λ (n : ℕ). space ∷ decimal n) (get_or ns i 0)))
    ∙ sym (ap spaced (take_more ns i 0 h) ∙ flat_append (λ (n : ℕ). space ∷ decimal n) (take i ns) (get_or ns i 0 ∷ []))

-- the parts that the code writes
pub event_parts : (n : ℕ) (e : Event) (a : Answer)
    → decimal n ++ ending (e.seat ∷ e.way ∷ e.message ∷ a.refusal ∷ a.state ∷ a.action ∷ a.reply ∷ []) ≡ event_line n e a
unfolding event_line
event_parts n e a = line_ending (decimal n) (e.seat ∷ e.way ∷ e.message ∷ a.refusal ∷ a.state ∷ a.action ∷ a.reply ∷ [])

pub seat_parts : (b : List ℕ) (n : ℕ) → bytes "seat" ++ ending (n ∷ (seat_of b n).state ∷ []) ≡ seat_line b n
unfolding seat_line
seat_parts b n = line_ending (bytes "seat") (n ∷ (seat_of b n).state ∷ [])

pub book_parts : (b : List ℕ) → bytes "book" ++ ending (activity_count b ∷ seat_count b ∷ []) ≡ book_line b
unfolding book_line
book_parts b = line_ending (bytes "book") (activity_count b ∷ seat_count b ∷ [])

pub refused_book_parts : (number : ℕ) → bytes "refused" ++ ending (number ∷ []) ≡ refused_book number
unfolding refused_book
refused_book_parts number = line_ending (bytes "refused") (number ∷ [])

pub refused_line_parts : (number n : ℕ)
    → bytes "refused" ++ ((space ∷ []) ++ ((decimal number ++ (space ∷ [])) ++ (bytes "line" ++ ending (n ∷ [])))) ≡ refused_line number n
unfolding refused_line
refused_line_parts number n =
    ap (λ (l : List ℕ). bytes "refused" ++ (space ∷ l))
    (append_assoc (decimal number) (space ∷ []) (bytes "line" ++ ending (n ∷ []))
    ∙ ap (λ (l : List ℕ). decimal number ++ (space ∷ l)) (line_ending (bytes "line") (n ∷ [])))

-- one more event and its answer
lines_more : (i : ℕ) (es : List Event) (as' : List Answer) (e : Event) (a : Answer) → length es ≡ length as'
    → event_lines i (es ++ (e ∷ [])) (as' ++ (a ∷ [])) ≡ event_lines i es as' ++ event_line (i + length es) e a
lines_more i [] [] e a h = let z : i + 0 ≡ i = omega arith in rw (z, append-nil)
lines_more i [] (b ∷ as') e a h = absurd (omega arith)
lines_more i (d ∷ es) [] e a h = absurd (omega arith)
lines_more i (d ∷ es) (b ∷ as') e a h =
    let z : suc i + length es ≡ i + suc (length es) = omega arith in
    rw (lines_more (suc i) es as' e a (omega arith), z) (sym (append_assoc (event_line i d b) (event_lines (suc i) es as') (event_line (i + suc (length es)) e a)))

later : (r s a m : ℕ) (l : List ℕ) (n : ℕ) → answer_at (r ∷ s ∷ a ∷ m ∷ l) (suc n) ≡ answer_at l n
unfolding answer_at
later r s a m l n =
    let e : 4 * suc n ≡ suc (suc (suc (suc (4 * n)))) = omega arith in
    let e₁ : 4 * suc n + 1 ≡ suc (suc (suc (suc (4 * n + 1)))) = omega arith in
    let e₂ : 4 * suc n + 2 ≡ suc (suc (suc (suc (4 * n + 2)))) = omega arith in
    let e₃ : 4 * suc n + 3 ≡ suc (suc (suc (suc (4 * n + 3)))) = omega arith in
    rw (e₁, e₂, e₃, e)

answers_more : (n : ℕ) (l : List ℕ) → 4 * n + 4 ≤ length l → first_answers (suc n) l ≡ first_answers n l ++ (answer_at l n ∷ [])
unfolding answer_at
answers_more n [] h = absurd (omega arith)
answers_more n (r ∷ []) h = absurd (omega arith)
answers_more n (r ∷ s ∷ []) h = absurd (omega arith)
answers_more n (r ∷ s ∷ a ∷ []) h = absurd (omega arith)
answers_more zero (r ∷ s ∷ a ∷ m ∷ l) h = refl
answers_more (suc n) (r ∷ s ∷ a ∷ m ∷ l) h =
    rw (later r s a m l n) (ap (λ (as' : List Answer). answer r s a m ∷ as') (answers_more n l (omega arith)))

length_answers : (n : ℕ) (l : List ℕ) → 4 * n ≤ length l → length (first_answers n l) ≡ n
length_answers zero l h = refl
length_answers (suc n) [] h = absurd (omega arith)
length_answers (suc n) (r ∷ []) h = absurd (omega arith)
length_answers (suc n) (r ∷ s ∷ []) h = absurd (omega arith)
length_answers (suc n) (r ∷ s ∷ a ∷ []) h = absurd (omega arith)
length_answers (suc n) (r ∷ s ∷ a ∷ m ∷ l) h = ap suc (length_answers n l (omega arith))

-- the lines of the first i events, and the line of the next
pub next_line : (ev an : List ℕ) (i : ℕ) → 4 * i + 4 ≤ length an
    → event_lines 1 (first_events ev i) (first_answers i an) ++ event_line (i + 1) (event_at ev i) (answer_at an i)
    ≡ event_lines 1 (first_events ev (i + 1)) (first_answers (i + 1) an)
next_line ev an i h =
    let z : i + 1 ≡ 1 + length (first_events ev i) = omega (arith, length_first_events ev i) in
    sym (rw (add-one i, answers_more i an h, lines_more 1 (first_events ev i) (first_answers i an) (event_at ev i) (answer_at an i) (length_first_events ev i ∙ sym (length_answers i an (omega arith))))
    (ap (λ (k : ℕ). event_lines 1 (first_events ev i) (first_answers i an) ++ event_line k (event_at ev i) (answer_at an i)) (sym z ∙ add-one i)))

-- a seat of 16 bits, from two bytes
pub seat_most : (l : List ℕ) (n : ℕ) → get_or l (4 * n) 0 < 256 → get_or l (4 * n + 1) 0 < 256 → (event_at l n).seat < number_most
unfolding event_at at16
seat_most l n f g = omega arith
