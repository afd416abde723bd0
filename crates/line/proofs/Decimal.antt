-- A line's first bytes, walked one by one: the digits that are left say the whole, after the number so far.
-- Assumes nothing.
use Rattle.std.proofs.Common.{◌≡◌, ℕ, suc, ◌+◌, ◌-◌, ◌*◌, ◌<◌, ◌≤◌, Bool, true, false, eqb, leb, ◌⊎◌, None, List, [], ◌∷◌, length, get_or, drop, refl, inl, inr, le_trans, le_refl, add-one, arith, drop_of_length-le, drop-cons, lt-ltb, eq-eqb, ne_eqb, eqb-true, le-leb}
use mathlib.Core.Bool.{and-false}
use lib.Dec.{leb-suc-suc}
use Rattle.std.proofs.lemmas.Bool.{lt-leb}
use Rattle.line.specs.Grammar.{space, index_of, before, value, well_begun, is_seat}
use Rattle.line.specs.Seats.{digits_are, seat_in, digits_in}

-- how a seat begins: at least one byte before the space, and no 0 before others
pub no_byte : (l : List ℕ) → get_or l 0 0 ≡ space → seat_in l ≡ None
unfolding seat_in is_seat
no_byte [] e = refl
no_byte (x ∷ l) e = rw (eq-eqb x space e, and-false)

one_byte : (x : ℕ) (b : Bool) → eqb x space ≡ b → seat_in (x ∷ []) ≡ None
unfolding seat_in is_seat
one_byte x true e = no_byte (x ∷ []) (eqb-true x space e)
one_byte x false e = rw e

pub too_short : (l : List ℕ) → length l < 2 → seat_in l ≡ None
unfolding seat_in is_seat
too_short [] h = refl
too_short (x ∷ []) h = one_byte x (eqb x space) refl
too_short (x ∷ y ∷ l) h = absurd (omega arith)

pub zero_leads : (l : List ℕ) → 2 ≤ length l → get_or l 0 0 ≡ 48 → (get_or l 1 0 ≡ space → ⊥) → seat_in l ≡ None
unfolding seat_in is_seat
zero_leads [] h e n = refl
zero_leads (x ∷ []) h e n = absurd (omega arith)
zero_leads (x ∷ y ∷ l) h e n = rw (e, ne_eqb y space n, and-false)

started : (x : ℕ) → (x ≡ 48 → ⊥) → (l : List ℕ) → well_begun (x ∷ l) ≡ true
started x n [] = refl
started x n (y ∷ l) = rw (ne_eqb x 48 n)

pub begun : (l : List ℕ) → 2 ≤ length l → (get_or l 0 0 ≡ space → ⊥) → (get_or l 0 0 ≡ 48 → ⊥) ⊎ (get_or l 1 0 ≡ space) → seat_in l ≡ digits_in 0 0 l
unfolding seat_in is_seat digits_in
begun [] h m w = refl
begun (x ∷ []) h m w = absurd (omega arith)
begun (x ∷ y ∷ l) h m (inl w) =
    let j = suc (index_of space (y ∷ l)) in
    let z : 0 + j ≡ j = omega arith in
    rw (ne_eqb x space m, started x w (before space (y ∷ l)), z)
begun (x ∷ y ∷ l) h m (inr w) = rw (ne_eqb x space m, eq-eqb y space w)

-- one byte more
value_grows : (n : ℕ) (l : List ℕ) → n ≤ value n l
value_grows n [] = le_refl n
value_grows n (x ∷ l) = le_trans {m = n * 10 + (x - 48)} (omega arith) (value_grows (n * 10 + (x - 48)) l)

pub too_large : (n i : ℕ) (l : List ℕ) → 65535 < n → digits_in n i l ≡ None
unfolding digits_in
too_large n i l h =
    let g : leb (value n (before space l)) 65535 ≡ false = lt-leb (value n (before space l)) 65535 (le_trans h (value_grows n (before space l))) in
    rw (g, and-false, and-false)

module _ (n : ℕ) (l : List ℕ) (i : ℕ) where
  pub no_space : length l ≤ i → digits_in n i (drop i l) ≡ None
  unfolding digits_in
  no_space p = rw (drop_of_length-le l p)

  module _ (p : i < length l) where
    pub at_space : n ≤ 65535 → get_or l i 0 ≡ space → digits_in n i (drop i l) ≡ digits_are n i
    unfolding digits_in
    at_space h e = let z : i + 0 ≡ i = omega arith in rw (drop-cons l i 0 p, eq-eqb _ _ e, le-leb n 65535 h, z, lt-ltb 0 (suc (length (drop (suc i) l))) (omega arith))

    module _ (o : get_or l i 0 ≡ space → ⊥) where
      pub low : get_or l i 0 < 48 → digits_in n i (drop i l) ≡ None
      unfolding digits_in
      low h = rw (drop-cons l i 0 p, ne_eqb _ _ o, lt-leb 48 (get_or l i 0) h, and-false)

      pub high : 57 < get_or l i 0 → digits_in n i (drop i l) ≡ None
      unfolding digits_in
      high h = rw (drop-cons l i 0 p, ne_eqb _ _ o, lt-leb (get_or l i 0) 57 h, and-false, and-false)

      pub digit : 48 ≤ get_or l i 0 → get_or l i 0 ≤ 57 → digits_in n i (drop i l) ≡ digits_in (n * 10 + (get_or l i 0 - 48)) (i + 1) (drop (i + 1) l)
      unfolding digits_in
      digit g h =
          let z : i + suc (index_of space (drop (suc i) l)) ≡ suc i + index_of space (drop (suc i) l) = omega arith in
          rw (drop-cons l i 0 p, ne_eqb _ _ o, le-leb 48 (get_or l i 0) g, le-leb (get_or l i 0) 57 h, add-one, z, leb-suc-suc)

-- how a line begins, and what its bytes do to the digits so far
pub ruleset seat_begins = (too_short, no_byte, zero_leads, begun)

pub ruleset digits_on = (at_space, low, high, digit, too_large, no_space)
