-- Digits that are read in five turns, whether they have ended or not: after i turns `size` digits stood in front, they said n, and
-- where none has ended them yet all i bytes are digits and say what was summed up.
-- Assumes nothing.
use Rattle.std.proofs.Common.{◌≡◌, ℕ, zero, suc, ◌+◌, ◌-◌, ◌*◌, ◌%◌, ◌^◌, ◌<◌, ◌≤◌, Bool, true, false, ◌&&◌, leb, List, [], ◌∷◌, ◌++◌, length, get_or, take, sym, refl, ap, ◌∙◌, add-one, arith, take-suc, leb-true}
use Rattle.std.proofs.lemmas.Bool.{false≢true}
use mir.Val.{bool_byte}
use mir.Facts.{leb_yes}
use Rattle.lemmas.specs.Bools.{both}
use Rattle.lemmas.specs.Ranges.{each_at}
use Rattle.line.specs.Grammar.{all_digits, value}
use Rattle.line.specs.Digits.{is_digit_lem, value_snoc, digits_snoc}

-- what a Bool, as a number, keeps of a product
pub bit_keeps : (b : Bool) (x : ℕ) → (bool_byte b * x ≤ x) × (x * bool_byte b ≤ x) × ((1 - bool_byte b) * x ≤ x)
bit_keeps true x = (omega arith, omega arith, omega arith)
bit_keeps false x = (omega arith, omega arith, omega arith)

-- how large i bytes, each ten times the one before it, can get
abbrev cap : ℕ → ℕ
cap zero = 0
cap (suc i) = 10 * cap i + 255

cap_most : (i : ℕ) → i < 5 → cap i ≤ 283305
cap_most i h = leb_yes (each_at (λ k. leb (cap k) 283305) 5 0 tt i (omega arith) (omega arith))

pub record Run (l : List ℕ) (n size all : ℕ) (on : Bool) (i : ℕ) : Type 0 where
  pub within : size ≤ i
  pub each : all_digits (take size l) ≡ true
  pub says : n ≡ value 0 (take size l)
  pub all_says : on ≡ true → (size ≡ i) × (all ≡ value 0 (take i l))
  pub small : n ≤ 2833305
  pub capped : all ≤ cap i

pub run_none : (l : List ℕ) → Run l 0 0 0 true 0
run_none l = record { within = omega arith; each = refl; says = refl; all_says = λ e. (refl, refl); small = omega arith; capped = omega arith }

module _ (l : List ℕ) (n size all : ℕ) (on : Bool) (i : ℕ) (r : Run l n size all on i) (five : i < 5) where
  pub run_small : all ≤ 283305
  run_small = omega (arith, r.capped, cap_most i five)

  -- one turn more
  module _ (low : ℕ) (p : i < length l) (w : (low + 48) % 2 ^ 8 ≡ get_or l i 0) (b : low < 256) where
    turn : (t : Bool) → (on && leb low 9) ≡ t → Run l (bool_byte t * (10 * all + low) + (1 - bool_byte t) * n) (size + bool_byte t) (10 * all + low) t (i + 1)
    turn true e =
        let g = both on (leb low 9) e in
        let nine = leb-true low 9 g.1 in
        let s = r.all_says g.0 in
        let x : get_or l i 0 ≡ low + 48 = omega (arith, w) in
        let front : take (i + 1) l ≡ take i l ++ (get_or l i 0 ∷ []) = rw add-one (take-suc l i 0 p) in
        let to : size + 1 ≡ i + 1 = omega (arith, s.0) in
        let so : all_digits (take i l) ≡ true = ap (λ (k : ℕ). all_digits (take k l)) (sym s.0) ∙ r.each in
        let sum : 10 * all + low ≡ value 0 (take (i + 1) l) =
        sym (ap (value 0) front ∙ value_snoc 0 (take i l) (get_or l i 0) ∙ omega (arith, x, s.1))
        in
        let one : 1 * (10 * all + low) + (1 - 1) * n ≡ 10 * all + low = omega arith in
        record {
          within = omega arith;
          each = rw (to, front) (digits_snoc (take i l) (get_or l i 0) so (is_digit_lem (get_or l i 0) (omega arith) (omega arith)));
          says = one ∙ sum ∙ ap (λ (k : ℕ). value 0 (take k l)) (sym to);
          all_says = λ _. (to, sum);
          small = omega (arith, one, run_small);
          capped = rw add-one (omega (arith, r.capped));
        }
    turn false e =
        let none : 0 * (10 * all + low) + (1 - 0) * n ≡ n = omega arith in
        let to : size + 0 ≡ size = omega arith in
        record {
          within = omega (arith, r.within);
          each = rw to r.each;
          says = none ∙ rw to r.says;
          all_says = λ f. absurd (false≢true f);
          small = omega (arith, none, r.small);
          capped = rw add-one (omega (arith, r.capped));
        }

    pub run_on : Run l (bool_byte (on && leb low 9) * (10 * all + low) + (1 - bool_byte (on && leb low 9)) * n) (size + bool_byte (on && leb low 9)) (10 * all + low) (on && leb low 9) (i + 1)
    run_on = turn (on && leb low 9) refl
