-- A seat's field and its number are each other's: a number in decimal is read as itself, and a field that is read as a number is
-- that number in decimal.
-- The argument: both go digit by digit. A last digit more makes ten times the number and the digit (`says_more`); and a number that
-- goes on by digits is written as its front and those digits (`goes_on`).
-- Assumes nothing.
use Rattle.std.specs.Prelude.{ℕ, zero, suc, ◌+◌, ◌*◌, ◌-◌, ◌/◌, ◌%◌, ◌<◌, ◌≤◌, ◌≡◌, refl, true, ◌&&◌, not, List, [], ◌∷◌, ◌++◌, eqb, leb}
use Rattle.std.proofs.Common.{arith, sym, ◌∙◌, ap, subst, ⊎_elim, append_assoc, append-nil, ne_eqb, leb-true, le-leb}
use Rattle.std.proofs.lemmas.Bool.{false≢true, eqb-false, not-true}
use Rattle.lemmas.specs.Bools.{both, both_of}
use Rattle.lemmas.specs.Orders.{below_or}
use Rattle.line.specs.Grammar.{is_digit, all_digits, well_begun, value, is_seat}
use Rattle.line.specs.Digits.{is_digit_lem, digit_is, value_snoc, digits_snoc}
use Rattle.text.specs.Text.{digit, decimal}
use Rattle.text.specs.Laws.{decimal_one, decimal_more}

-- the field l says the number n, as the grammar reads a seat
pub record Says (l : List ℕ) (n : ℕ) : Type 0 where
  pub begun : well_begun l ≡ true
  pub each : all_digits l ≡ true
  pub said : value 0 l ≡ n

-- a last digit more leaves the beginning
begun_snoc : (l : List ℕ) (x : ℕ) → well_begun l ≡ true → 1 ≤ value 0 l → well_begun (l ++ (x ∷ [])) ≡ true
begun_snoc [] x h p = absurd (false≢true h)
begun_snoc (y ∷ []) x h p = ap not (ne_eqb y 48 (λ e. omega arith))
begun_snoc (y ∷ z ∷ l) x h p = h

-- so it says ten times the number and the digit
says_more : (l : List ℕ) (n d : ℕ) → Says l n → 1 ≤ n → d < 10 → Says (l ++ (digit d ∷ [])) (n * 10 + d)
says_more l n d s p q =
    record {
      begun = begun_snoc l (digit d) s.begun (omega (arith, s.said));
      each = digits_snoc l (digit d) s.each (is_digit_lem (digit d) (omega arith) (omega arith));
      said = value_snoc 0 l (digit d) ∙ omega (arith, s.said);
    }

-- a number below ten says itself
says_one : (n : ℕ) → n < 10 → Says (decimal n) n
says_one n h =
    subst (λ (l : List ℕ). Says l n) (sym (decimal_one n h))
    (record { begun = refl; each = both_of (is_digit_lem (digit n) (omega arith) (omega arith)) refl; said = omega arith })

-- and so does any other, if the number of one digit fewer does
says_tens : (n : ℕ) → 10 ≤ n → n < 100000 → Says (decimal (n / 10)) (n / 10) → Says (decimal n) n
says_tens n p l s =
    let e : n / 10 * 10 + n % 10 ≡ n = omega arith in
    subst (λ (t : List ℕ). Says t n) (sym (decimal_more n p l))
    (subst (Says (decimal (n / 10) ++ (digit (n % 10) ∷ []))) e (says_more (decimal (n / 10)) (n / 10) (n % 10) s (omega arith) (omega arith)))

-- hence each, by numbers up to k
says_by : (k n : ℕ) → n ≤ k → n < 100000 → Says (decimal n) n
says_by zero n h l = says_one n (omega arith)
says_by (suc k) n h l = ⊎_elim (λ p. says_one n p) (λ p. says_tens n p l (says_by k (n / 10) (omega arith) (omega arith))) (below_or n 10)

-- a number in decimal says that number
pub decimal_says : (n : ℕ) → n < 100000 → Says (decimal n) n
decimal_says n l = says_by n n (omega arith) l

-- digits that follow make a number no smaller
value_grows : (n : ℕ) (l : List ℕ) → n ≤ value n l
value_grows n [] = omega arith
value_grows n (x ∷ l) = omega (arith, value_grows (n * 10 + (x - 48)) l)

-- a number, not 0, that goes on by digits is written as itself and those digits
goes_on : (n : ℕ) (l : List ℕ) → 1 ≤ n → all_digits l ≡ true → value n l < 100000 → decimal (value n l) ≡ decimal n ++ l
goes_on n [] p h q = sym (append-nil (decimal n))
goes_on n (x ∷ l) p h q =
    let w = both (is_digit x) (all_digits l) h in
    let d = digit_is x w.0 in
    let m = n * 10 + (x - 48) in
    let g : m ≤ value m l = value_grows m l in
    let front : m / 10 ≡ n = omega arith in
    let last : digit (m % 10) ≡ x = omega arith in
    goes_on m l (omega arith) w.1 q
    ∙ ap (λ (t : List ℕ). t ++ l) (decimal_more m (omega arith) (omega arith) ∙ (λ j. decimal (front j) ++ (last j ∷ [])))
    ∙ append_assoc (decimal n) (x ∷ []) l

-- a first digit that is not 0
nonzero : (x : ℕ) → (x ≡ 48 → ⊥) → 48 ≤ x → 1 ≤ 0 * 10 + (x - 48)
nonzero x f p = ⊎_elim (λ q. omega arith) (λ q. absurd (f (omega arith))) (below_or 48 x)

-- so a field that says a number is that number in decimal
pub says_decimal : (l : List ℕ) (n : ℕ) → Says l n → n < 100000 → l ≡ decimal n
says_decimal [] n s q = absurd (false≢true s.begun)
says_decimal (x ∷ []) n s q =
    let d = digit_is x (both (is_digit x) true s.each).0 in
    let e : digit n ≡ x = omega (arith, s.said) in
    sym (decimal_one n (omega (arith, s.said)) ∙ ap (λ (y : ℕ). y ∷ []) e)
says_decimal (x ∷ y ∷ l) n s q =
    let w = both (is_digit x) (all_digits (y ∷ l)) s.each in
    let d = digit_is x w.0 in
    let m = 0 * 10 + (x - 48) in
    let some = eqb-false x 48 (not-true (eqb x 48) s.begun) in
    let e : digit m ≡ x = omega arith in
    sym (ap decimal (sym s.said) ∙ goes_on m (y ∷ l) (nonzero x some d.0) w.1 (omega (arith, s.said))
    ∙ ap (λ (t : List ℕ). t ++ y ∷ l) (decimal_one m (omega arith) ∙ ap (λ (z : ℕ). z ∷ []) e))

-- a seat's field is the seat in decimal ..
pub seat_own : (n : ℕ) → n ≤ 65535 → (is_seat (decimal n) ≡ true) × (value 0 (decimal n) ≡ n)
unfolding is_seat
seat_own n h =
    let s = decimal_says n (omega arith) in
    (both_of s.begun (both_of s.each (le-leb (value 0 (decimal n)) 65535 (omega (arith, s.said)))), s.said)

-- .. and nothing else
pub seat_only : (l : List ℕ) → is_seat l ≡ true → l ≡ decimal (value 0 l)
unfolding is_seat
seat_only l h =
    let w = both (well_begun l) (all_digits l && leb (value 0 l) 65535) h in
    let v = both (all_digits l) (leb (value 0 l) 65535) w.1 in
    says_decimal l (value 0 l) (record { begun = w.0; each = v.0; said = refl }) (omega (arith, leb-true (value 0 l) 65535 v.1))
