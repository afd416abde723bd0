-- One turn of the loop over events, and that the book is good all along.
-- Assumes nothing.
use Rattle.std.proofs.Common.{◌≡◌, refl, sym, ap, ◌∙◌, List, [], ◌∷◌, ◌++◌, ℕ, ◌+◌, ◌*◌, add-one, arith, length}
use Rattle.records.specs.declared.Event.{Event}
use Rattle.records.specs.Records.{placed, flat, first_events, event_at}
use Rattle.records.specs.Laws.{placed_next, flat_append, length_flat, length_first_events}
use Rattle.rules.specs.declared.Answer.{Answer}
use Rattle.book.specs.Book.{book_refusal}
use Rattle.book.specs.Good.{good_to}
use Rattle.book.proofs.Chain.{good_of}
use Rattle.run.specs.Step.{answer_to, book_after, answer_bytes}
use Rattle.run.specs.Run.{after, answers, filled}
use Rattle.run.specs.Kept.{run_good}
use Rattle.run.specs.Joined.{after_joined, answers_joined, length_answers}

module _ (b ev area : List ℕ) (i : ℕ) where
  abbrev done : List Event
  done = first_events ev i

  -- the answers to the first i events take 4 i bytes
  filled_bytes : length (flat answer_bytes (answers b (first_events ev i))) ≡ 4 * i
  filled_bytes =
      length_flat answer_bytes 4 (λ a. refl) (answers b done) ∙ ap (λ (n : ℕ). 4 * n) (length_answers b done ∙ length_first_events ev i)

  pub turn_book : {b₁ b₂ : List ℕ} {e : Event} → b₁ ≡ after b (first_events ev i) → e ≡ event_at ev i → b₂ ≡ book_after b₁ e
      → b₂ ≡ after b (first_events ev (i + 1))
  turn_book is_b is_e z =
      z ∙ (λ j. book_after (is_b j) (is_e j)) ∙ rw (add-one i) (sym (after_joined b (first_events ev i) (event_at ev i ∷ [])))

  pub turn_area : {b₁ l₁ l₂ : List ℕ} {e : Event} {a : Answer} → b₁ ≡ after b (first_events ev i) → e ≡ event_at ev i → a ≡ answer_to b₁ e
      → l₁ ≡ filled b ev area i → l₂ ≡ placed l₁ (4 * i) (answer_bytes a) → l₂ ≡ filled b ev area (i + 1)
  turn_area {b₁} {l₁} {l₂} {e} {a} is_b is_e is_a is_l z =
      let last = answer_to (after b done) (event_at ev i) in
      let s : a ≡ last = is_a ∙ (λ j. answer_to (is_b j) (is_e j)) in
      let q : 4 * i + 4 ≡ 4 * (i + 1) = omega arith in
      let more : first_events ev (i + 1) ≡ done ++ (event_at ev i ∷ []) = ap (first_events ev) (add-one i) in
      z ∙ (λ j. placed (is_l j) (4 * i) (answer_bytes (s j)))
      ∙ placed_next (flat answer_bytes (answers b done)) area (answer_bytes last) (4 * i) filled_bytes
      ∙ sym (rw (more, answers_joined b done (event_at ev i ∷ []), flat_append answer_bytes (answers b done) (last ∷ []), ← q))

-- a good book is good after any events
pub still_good : (b : List ℕ) (es : List Event) → book_refusal b ≡ 0 → book_refusal (after b es) ≡ 0
still_good b es g = good_to _ (run_good b es (good_of b g))
