-- What a run does to one group depends on that group's events alone. `Same b c` says that two books agree on the group.
-- The argument: an event of the group moves both books alike (`move`), any other leaves them the same (`stay`); then go along the list.
-- Assumes nothing.
use Rattle.std.specs.Prelude.{◌≡◌, refl, Bool, true, false, List, [], ◌∷◌, ℕ}
use Rattle.std.proofs.Common.{ap₂}
use Rattle.records.specs.declared.Event.{Event}
use Rattle.run.specs.Step.{answer_to, book_after}
use Rattle.run.specs.Run.{after, answers}
use Rattle.demands.specs.Groups.{only, only_to}

module _ (mine : Event → Bool) (Same : List ℕ → List ℕ → Type 0) where
  -- from b by all events, and from c by the group's: the group's answers are those of the second run, and the books agree on the group
  abbrev pub OneGroup : List Event → List ℕ → List ℕ → Type 0
  OneGroup es b c = (only_to mine es (answers b es) ≡ answers c (only mine es)) × Same (after b es) (after c (only mine es))

  module _
      (move : (b c : List ℕ) (e : Event) → mine e ≡ true → Same b c → (answer_to b e ≡ answer_to c e) × Same (book_after b e) (book_after c e))
      (stay : (b c : List ℕ) (e : Event) → mine e ≡ false → Same b c → Same (book_after b e) c) where
    pub one_group : (es : List Event) (b c : List ℕ) → Same b c → OneGroup es b c
    one_group [] b c s = (refl, s)
    one_group (e ∷ es) b c s = go (one_group es (book_after b e)) (mine e) refl
      where
        go : ((d : List ℕ) → Same (book_after b e) d → OneGroup es (book_after b e) d) → (t : Bool) → mine e ≡ t → OneGroup (e ∷ es) b c
        go ih true m =
            let (a, n) = move b c e m s in
            let (r, u) = ih (book_after c e) n in
            rw m (ap₂ ◌∷◌ a r, u)
        go ih false m = rw m (ih c (stay b c e m s))
