-- How many characters stand for n bytes: two digits each or, of more than 96, a `#` and eight digits.
-- Assumes nothing.
use Rattle.std.specs.Prelude.{ℕ, ◌*◌, ◌-◌, ◌^◌, ◌≤◌, ◌<◌, ◌≡◌, refl, Bool, true, false, cond, ltb}
use Rattle.std.proofs.Common.{arith, le_antisymm, ltb-true, ltb-false}
use Rattle.std.proofs.Math.Nat.{pow-le-pow_right}
use Rattle.io.specs.Digits.{IsDigitCount}

unfoldable pub shown : ℕ → ℕ
shown n = cond (ltb 96 n) 9 (2 * n)

-- `show::number` has one answer: fewer digits don't hold the number, and more are not the fewest
fewer : (n k j : ℕ) → IsDigitCount 10 1 n k → IsDigitCount 10 1 n j → j < k → ⊥
fewer n k j f g h =
    let low : 10 ^ (k - 1) ≤ n = f.2 (omega (arith, g.0)) in
    let least : j ≤ k - 1 = omega arith in
    let ten : 0 < 10 = omega arith in
    let grows : 10 ^ j ≤ 10 ^ (k - 1) = pow-le-pow_right ten least in
    omega (arith, g.1)

no_more : (n k j : ℕ) → IsDigitCount 10 1 n k → IsDigitCount 10 1 n j → (t : Bool) → ltb j k ≡ t → k ≤ j
no_more n k j f g true e = absurd (fewer n k j f g (ltb-true j k e))
no_more n k j f g false e = ltb-false j k e

pub one_count : (n k j : ℕ) → IsDigitCount 10 1 n k → IsDigitCount 10 1 n j → k ≡ j
one_count n k j f g = le_antisymm (no_more n k j f g (ltb j k) refl) (no_more n j k g f (ltb k j) refl)
