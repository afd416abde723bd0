-- What callers need of written text: how long a number is, and texts one after the other.
-- The argument: where the first text ends the second is placed, so the filled part grows by it (`placed_next`).
-- Assumes nothing.
use Rattle.std.specs.Prelude.{ℕ, zero, suc, ◌+◌, ◌-◌, ◌^◌, ◌/◌, ◌%◌, ◌≤◌, ◌<◌, ◌≡◌, refl, Bool, true, false, cond, List, [], ◌∷◌, ◌++◌, ltb, length, take, drop, set}
use Rattle.std.proofs.Common.{arith, add-one, sym, ◌∙◌, ap, subst, append_assoc, append-nil, length-append, length-drop, take-append-drop, drop_of_length-le, length-take-le, take_all, drop-drop, lt-ltb, le-ltb}
use Rattle.std.proofs.Math.Seq.{append_snoc, take-length}
use Rattle.std.proofs.lemmas.List.{set_split}
use Rattle.records.specs.Records.{placed}
use Rattle.records.specs.Laws.{placed_next}
use Rattle.text.specs.Text.{digit, digits, digits_most, number_most, decimal, Put}

-- a number has at least one digit and at most five
digits_most_lem : (k n : ℕ) → length (digits k n) ≤ k
digits_most_lem zero n = omega arith
digits_most_lem (suc k) n = at (digits_most_lem k (n / 10)) (ltb n 10) where
  at : length (digits k (n / 10)) ≤ k → (t : Bool) → length (cond t (digit n ∷ []) (digits k (n / 10) ++ (digit (n % 10) ∷ []))) ≤ suc k
  at h true = omega arith
  at h false = simp length-append (omega arith)

pub decimal_most : (n : ℕ) → length (decimal n) ≤ digits_most
unfolding decimal
decimal_most n = digits_most_lem digits_most n

digits_some : (k n : ℕ) → 1 ≤ length (digits (suc k) n)
digits_some k n = at (ltb n 10) where
  at : (t : Bool) → 1 ≤ length (cond t (digit n ∷ []) (digits k (n / 10) ++ (digit (n % 10) ∷ [])))
  at true = omega arith
  at false = simp length-append (omega arith)

pub decimal_some : (n : ℕ) → 1 ≤ length (decimal n)
unfolding decimal
decimal_some n = digits_some 4 n

-- more digits than a number has add nothing
enough_digits : (k n : ℕ) → n < 10 ^ suc k → digits (suc (suc k)) n ≡ digits (suc k) n
enough_digits zero n h = rw (lt-ltb n 10 (omega arith))
enough_digits (suc k) n h = ap (λ (l : List ℕ). cond (ltb n 10) (digit n ∷ []) (l ++ (digit (n % 10) ∷ []))) (enough_digits k (n / 10) (omega arith))

-- a number below ten is its digit; any other is a number of one digit fewer, and its last digit
pub decimal_one : (n : ℕ) → n < 10 → decimal n ≡ digit n ∷ []
unfolding decimal
decimal_one n h = rw (lt-ltb n 10 h)

pub decimal_more : (n : ℕ) → 10 ≤ n → n < number_most → decimal n ≡ decimal (n / 10) ++ (digit (n % 10) ∷ [])
unfolding decimal
decimal_more n h l = rw (le-ltb n 10 h, enough_digits 3 (n / 10) (omega arith))

pub decimal_less : (n : ℕ) → n < 10000 → length (decimal n) ≤ 4
unfolding decimal
decimal_less n h = rw (enough_digits 3 n h) (digits_most_lem 4 n)

-- a writer keeps the area's length
pub put_length : {a x b : List ℕ} {at n : ℕ} → Put a at x b n → length b ≡ length a
unfolding placed
put_length {a} {x} {b} {at} {n} p =
    ap length p.bytes ∙ simp (length-append, length-take-le at a (omega (arith, p.room)), length-drop) (omega (arith, p.room))

-- no text at all
pub put_none : (a : List ℕ) (at : ℕ) → at ≤ length a → Put a at [] a at
unfolding placed
put_none a at h = record { bytes = let z : at + 0 ≡ at = omega arith in sym (rw (z, append-nil) (take-append-drop at a)); end = omega arith; room = omega arith }

-- one text, and another from where it ends
grown : (a x y : List ℕ) (at : ℕ) → at + length x ≤ length a → placed (placed a at x) (at + length x) y ≡ placed a at (x ++ y)
unfolding placed
grown a x y at h =
    let f : length (take at a ++ x) ≡ at + length x = length-append (take at a) x ∙ rw (length-take-le at a (omega arith)) in
    let e : at + length x + length y ≡ at + length (x ++ y) = rw length-append (omega arith) in
    placed_next (take at a ++ x) a y (at + length x) f ∙ rw (e, append_assoc (take at a) x y)

pub joined : {a x b y c : List ℕ} {at m n : ℕ} → Put a at x b m → Put b m y c n → Put a at (x ++ y) c n
joined {a} {x} {b} {y} {c} {at} {m} {n} p q =
    record {
      bytes = q.bytes ∙ (λ j. placed (p.bytes j) (p.end j) y) ∙ grown a x y at p.room;
      end = omega (arith, p.end, q.end, length-append x y);
      room = omega (arith, p.end, q.room, put_length p, length-append x y);
    }

-- text that stands at the front
pub at_front : {a x b : List ℕ} {n : ℕ} → Put a 0 x b n → b ≡ x ++ drop (length x) a
unfolding placed
at_front {a} {x} p = let z : 0 + length x ≡ length x = omega arith in p.bytes ∙ ap (λ (k : ℕ). x ++ drop k a) z

-- one byte stored, a word copied to the rest of an area, and one copied over as many bytes
pub put_one : (a : List ℕ) (at b : ℕ) → at < length a → Put a at (b ∷ []) (set a at b) (at + 1)
unfolding placed
put_one a at b h =
    record {
      bytes = set_split a at b h ∙ rw add-one (sym (append_snoc (take at a) b (drop (suc at) a)));
      end = omega arith;
      room = omega arith;
    }

pub put_copied :
    (a w p : List ℕ) (at : ℕ) → at + length w ≤ length a → p ≡ take (length w) w ++ drop (length w) (take (length a - at) (drop at a))
    → Put a at w (take at a ++ (p ++ drop (length a - at) (drop at a))) (at + length w)
unfolding placed
put_copied a w p at h q =
    let l : length (drop at a) ≤ length a - at = omega (arith, length-drop at a) in
    record {
      bytes = rw (q, take-length w, take_all (length a - at) (drop at a) l, drop-drop (length w) at a, drop_of_length-le (drop at a) l, append-nil, append_assoc (take at a) w (drop (at + length w) a));
      end = refl;
      room = h;
    }

pub put_over : (a w : List ℕ) (at k : ℕ) → k ≡ length w → at + length w ≤ length a → Put a at w (take at a ++ (w ++ drop k (drop at a))) (at + length w)
unfolding placed
put_over a w at k e h =
    record {
      bytes = rw (e, drop-drop (length w) at a, append_assoc (take at a) w (drop (at + length w) a));
      end = refl;
      room = h;
    }

-- the same text, said otherwise
pub put_same : {a x y b : List ℕ} {at n : ℕ} → x ≡ y → Put a at x b n → Put a at y b n
put_same {a} {x} {y} {b} {at} {n} e p = subst (λ (z : List ℕ). Put a at z b n) e p
