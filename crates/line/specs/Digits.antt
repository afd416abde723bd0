-- Decimal digits: which bytes they are, and what a last digit more does to those before it.
-- Assumes nothing.
use Rattle.std.specs.Prelude.{◌≡◌, ℕ, ◌+◌, ◌-◌, ◌*◌, ◌<◌, ◌≤◌, true, not, List, [], ◌∷◌, ◌++◌, nat_le, refl}
use Rattle.std.proofs.Common.{arith, ap, ne_eqb, leb-true, le-leb}
use Rattle.lemmas.specs.Bools.{both, both_of}
use Rattle.line.specs.Grammar.{is_digit, all_digits, value}
use Rattle.line.specs.Cuts.{free}

-- a digit is a byte from 48 to 57
pub is_digit_lem : (x : ℕ) → 48 ≤ x → x ≤ 57 → is_digit x ≡ true
is_digit_lem x p q = both_of (le-leb 48 x p) (le-leb x 57 q)

pub digit_is : (x : ℕ) → is_digit x ≡ true → (48 ≤ x) × (x ≤ 57)
digit_is x h = let w = both (nat_le 48 x) (nat_le x 57) h in (leb-true 48 x w.0, leb-true x 57 w.1)

-- so digits have no byte below 48
pub digits_free : (b : ℕ) (l : List ℕ) → b < 48 → all_digits l ≡ true → free b l ≡ true
digits_free b [] p h = refl
digits_free b (x ∷ l) p h =
    let w = both (is_digit x) (all_digits l) h in
    let d = digit_is x w.0 in
    both_of (ap not (ne_eqb x b (λ e. omega arith))) (digits_free b l p w.1)

-- a last digit more: what it does to the value and to the digits
pub value_snoc : (n : ℕ) (l : List ℕ) (x : ℕ) → value n (l ++ (x ∷ [])) ≡ value n l * 10 + (x - 48)
value_snoc n [] x = refl
value_snoc n (y ∷ l) x = value_snoc (n * 10 + (y - 48)) l x

pub digits_snoc : (l : List ℕ) (x : ℕ) → all_digits l ≡ true → is_digit x ≡ true → all_digits (l ++ (x ∷ [])) ≡ true
digits_snoc [] x h k = both_of k refl
digits_snoc (y ∷ l) x h k = let w = both (is_digit y) (all_digits l) h in both_of w.0 (digits_snoc l x w.1 k)
