-- The five ends of a run, by its definitions: which refusal, and what is left of book and area.
-- Assumes nothing.
use Rattle.std.proofs.Common.{◌≡◌, sym, ◌∙◌, List, ℕ, ◌/◌, ◌%◌, ◌≤◌, ◌<◌, length, eq-eqb, ne_eqb, lt-ltb, le-ltb}
use Rattle.records.specs.Records.{first_events}
use Rattle.book.specs.Book.{book_refusal}
use Rattle.run.specs.Run.{after, filled, run_refusal, run_book, run_answers}

module _ (b ev area : List ℕ) where
  -- a refusal changes nothing
  pub refuses : (r : ℕ) → r ≡ run_refusal b ev area → (r ≡ 0 → ⊥) → (r ≡ run_refusal b ev area) × ((b ≡ run_book b ev area) × (area ≡ run_answers b ev area))
  unfolding run_book run_answers
  refuses r e ne = let k = ne_eqb (run_refusal b ev area) 0 (λ z. ne (e ∙ z)) in (e, (simp k, simp k))

  pub ends : {b' l' : List ℕ} → 0 ≡ run_refusal b ev area → b' ≡ after b (first_events ev (length ev / 4)) → l' ≡ filled b ev area (length ev / 4)
      → (0 ≡ run_refusal b ev area) × ((b' ≡ run_book b ev area) × (l' ≡ run_answers b ev area))
  unfolding run_book run_answers
  ends e p q = let k = eq-eqb (run_refusal b ev area) 0 (sym e) in (e, (simp k p, simp k q))

  pub bad_book_lem : {r : ℕ} → r ≡ book_refusal b → (r ≡ 0 → ⊥) → r ≡ run_refusal b ev area
  unfolding run_refusal
  bad_book_lem e ne = simp (ne_eqb (book_refusal b) 0 (λ z. ne (e ∙ z))) e

  module _ (good : book_refusal b ≡ 0) where
    pub bad_length : (length ev % 4 ≡ 0 → ⊥) → 6 ≡ run_refusal b ev area
    unfolding run_refusal
    bad_length ne = simp (eq-eqb _ _ good, ne_eqb (length ev % 4) 0 ne)

    module _ (whole : length ev % 4 ≡ 0) where
      pub too_many : 4096 < length ev / 4 → 6 ≡ run_refusal b ev area
      unfolding run_refusal
      too_many h = simp (eq-eqb _ _ good, eq-eqb (length ev % 4) 0 whole, lt-ltb _ _ h)

      module _ (few : length ev / 4 ≤ 4096) where
        pub no_room : length area < length ev → 7 ≡ run_refusal b ev area
        unfolding run_refusal
        no_room h = simp (eq-eqb _ _ good, eq-eqb (length ev % 4) 0 whole, le-ltb _ _ few, lt-ltb _ _ h)

        pub fine : length ev ≤ length area → 0 ≡ run_refusal b ev area
        unfolding run_refusal
        fine h = simp (eq-eqb _ _ good, eq-eqb (length ev % 4) 0 whole, le-ltb _ _ few, le-ltb _ _ h)
