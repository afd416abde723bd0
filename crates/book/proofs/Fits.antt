-- One walk for rules 4 and 5.
-- The argument: a test of both rules passes at every seat exactly where each rule's does.
-- Assumes nothing.
use Rattle.std.proofs.Common.{◌≡◌, sym, ◌∙◌, true, false, ⊎_elim, List, ℕ}
use Rattle.std.proofs.lemmas.Bool.{false≢true}
use Rattle.lemmas.specs.Bools.{both, both_of, cases}
use Rattle.lemmas.specs.Walks.{every_at, every_all}
use Rattle.book.specs.Layout.{seat_count}
use Rattle.book.specs.Book.{seat_good_at, seats_good, agrees_at, directions_good, fits_at, seats_fit}

-- the walk over both rules
module _ (b : List ℕ) where
  pub fit_seats : seats_fit b ≡ true → (seats_good b ≡ true) × (directions_good b ≡ true)
  unfolding seats_fit seats_good directions_good
  fit_seats h = (
    every_all (seat_good_at b) (seat_count b) (λ i l. (both (seat_good_at b i) (agrees_at b i) (every_at (fits_at b) (seat_count b) i h l)).0),
    every_all (agrees_at b) (seat_count b) (λ i l. (both (seat_good_at b i) (agrees_at b i) (every_at (fits_at b) (seat_count b) i h l)).1),
  )

  pub unfit_direction : seats_fit b ≡ false → seats_good b ≡ true → directions_good b ≡ false
  unfolding seats_fit seats_good directions_good
  unfit_direction f s =
      ⊎_elim
      (λ (d : directions_good b ≡ true). absurd (false≢true (sym f ∙ every_all (fits_at b) (seat_count b)
      (λ i l. both_of (every_at (seat_good_at b) (seat_count b) i s l) (every_at (agrees_at b) (seat_count b) i d l)))))
      (λ (d : directions_good b ≡ false). d)
      (cases (directions_good b))
