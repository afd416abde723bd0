-- A run of two lists one after the other is the run of the joined list.
-- Assumes nothing.
use Rattle.std.specs.Prelude.{◌≡◌, refl, List, [], ◌∷◌, ◌++◌, ℕ, suc, length}
use Rattle.std.proofs.Common.{ap}
use Rattle.records.specs.declared.Event.{Event}
use Rattle.rules.specs.declared.Answer.{Answer}
use Rattle.run.specs.Step.{answer_to, book_after}
use Rattle.run.specs.Run.{after, answers}

pub after_joined : (b : List ℕ) (es fs : List Event) → after b (es ++ fs) ≡ after (after b es) fs
after_joined b [] fs = refl
after_joined b (e ∷ es) fs = after_joined (book_after b e) es fs

pub answers_joined : (b : List ℕ) (es fs : List Event) → answers b (es ++ fs) ≡ answers b es ++ answers (after b es) fs
answers_joined b [] fs = refl
answers_joined b (e ∷ es) fs = ap (λ (l : List Answer). answer_to b e ∷ l) (answers_joined (book_after b e) es fs)

pub length_answers : (b : List ℕ) (es : List Event) → length (answers b es) ≡ length es
length_answers b [] = refl
length_answers b (e ∷ es) = ap suc (length_answers (book_after b e) es)
