-- An event's group is its seat's activity; the events that name no seat are one group more.
-- Assumes nothing.
use Rattle.std.specs.Prelude.{Bool, cond, List, [], ◌∷◌, ℕ, zero, suc, ltb, eqb}
use Rattle.records.specs.declared.Event.{Event}
use Rattle.rules.specs.declared.Answer.{Answer}
use Rattle.rules.specs.Rules.{answer}
use Rattle.book.specs.Layout.{seat_count, seat_of}

-- 0 where the event names no seat, else its seat's activity plus 1
abbrev pub group_of : List ℕ → Event → ℕ
group_of b e = cond (ltb e.seat (seat_count b)) (suc (seat_of b e.seat).activity) 0

abbrev pub in_group : List ℕ → ℕ → Event → Bool
in_group b g e = eqb (group_of b e) g

-- those of a list that pass a test, in order
abbrev pub only : (Event → Bool) → List Event → List Event
only p [] = []
only p (e ∷ es) = cond (p e) (e ∷ only p es) (only p es)

-- of the answers to a list of events, those to the events that pass a test
abbrev pub only_to : (Event → Bool) → List Event → List Answer → List Answer
only_to p [] as' = []
only_to p (e ∷ es) [] = []
only_to p (e ∷ es) (a ∷ as') = cond (p e) (a ∷ only_to p es as') (only_to p es as')

-- the first n answers that stand in an area, four bytes each
abbrev pub first_answers : ℕ → List ℕ → List Answer
first_answers zero l = []
first_answers (suc n) [] = []
first_answers (suc n) (r ∷ []) = []
first_answers (suc n) (r ∷ s ∷ []) = []
first_answers (suc n) (r ∷ s ∷ a ∷ []) = []
first_answers (suc n) (r ∷ s ∷ a ∷ m ∷ l) = answer r s a m ∷ first_answers n l
