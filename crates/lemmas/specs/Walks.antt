-- A test at each record under a count, and the laws for a walk that is left at the first record that fails it.
-- Assumes nothing.
use Rattle.std.specs.Prelude.{◌≡◌, refl, Bool, true, false, ◌&&◌, ℕ, zero, suc, ◌+◌, ◌<◌, ◌≤◌, eqb}
use Rattle.std.proofs.Common.{sym, ap, ◌∙◌, ⊎_elim, arith, le_of_suc-le-suc, not-suc-le-zero, eq-or-lt_of_le, add-one, eq-eqb, ne_eqb}
use Rattle.std.proofs.Math.Bool.{and-false}
use Rattle.lemmas.specs.Bools.{both, both_of}

-- p passes at each number under n
unfoldable pub every : (ℕ → Bool) → ℕ → Bool
every p zero = true
every p (suc n) = every p n && p n

pub every_none : (p : ℕ → Bool) → every p 0 ≡ true
unfolding every
every_none p = refl

pub every_more : (p : ℕ → Bool) (i : ℕ) → every p i ≡ true → p i ≡ true → every p (i + 1) ≡ true
unfolding every
every_more p i h k = rw add-one (both_of h k)

pub every_bad : (p : ℕ → Bool) (n i : ℕ) → i < n → p i ≡ false → every p n ≡ false
unfolding every
every_bad p zero i l h = absurd (not-suc-le-zero l)
every_bad p (suc n) i l h =
    ⊎_elim (λ (e : i ≡ n). simp (ap p (sym e) ∙ h, and-false)) (λ lt. simp (every_bad p n i lt h)) (eq-or-lt_of_le (le_of_suc-le-suc l))

pub every_at : (p : ℕ → Bool) (n i : ℕ) → every p n ≡ true → i < n → p i ≡ true
unfolding every
every_at p zero i h l = absurd (not-suc-le-zero l)
every_at p (suc n) i h l =
    ⊎_elim (λ (e : i ≡ n). ap p e ∙ (both (every p n) (p n) h).1) (λ lt. every_at p n i (both (every p n) (p n) h).0 lt)
    (eq-or-lt_of_le (le_of_suc-le-suc l))

pub every_all : (p : ℕ → Bool) (n : ℕ) → ((i : ℕ) → i < n → p i ≡ true) → every p n ≡ true
unfolding every
every_all p zero h = refl
every_all p (suc n) h = both_of (every_all p n (λ i l. h i (omega arith))) (h n (omega arith))

-- a walk under n, which is the count m, that came to the end, and one that was left at a record that fails
pub walk_end : (p : ℕ → Bool) (m : ℕ) {n i : ℕ} → n ≡ m → i ≤ n → every p i ≡ true → n ≤ i → eqb i n ≡ every p m
walk_end p m {n} {i} q l h k = let e : i ≡ m = omega arith in eq-eqb i n (omega arith) ∙ sym (ap (every p) (sym e) ∙ h)

pub walk_left : (p : ℕ → Bool) (m : ℕ) {n i : ℕ} → n ≡ m → i < n → p i ≡ false → eqb i n ≡ every p m
walk_left p m {n} {i} q l h = ne_eqb i n (λ e. omega arith) ∙ sym (every_bad p m i (omega arith) h)

-- a walk that answers for each test that its rule tells, told that its rule tells p, and what else its count is called
pub every_told : {says : ℕ → Bool → Type 0} {result : Bool} {n m : ℕ} (p : ℕ → Bool)
    → ((q : ℕ → Bool) → ((i : ℕ) (r : Bool) → i < n → says i r → r ≡ q i) → result ≡ every q n)
    → n ≡ m → ((i : ℕ) (r : Bool) → i < n → says i r → r ≡ p i) → result ≡ every p m
every_told p walk e told = walk p told ∙ ap (every p) e
