-- std's decimal of a number is `decimal`.
-- Assumes nothing.
use Rattle.std.specs.Prelude.{ℕ, ◌%◌, ◌<◌, ◌≡◌, List, [], ◌∷◌, ◌++◌}
use Rattle.std.proofs.Common.{arith, sym, ◌∙◌, ap}
use Rattle.std.specs.Fmt.{decimal as std_decimal}
use Rattle.std.proofs.lemmas.Fmt.{decimal_by_steps}
use Rattle.text.specs.Text.{digit, number_most, decimal}
use Rattle.text.specs.Laws.{decimal_one, decimal_more}

pub std_decimal_is : (n : ℕ) → n < number_most → std_decimal n ≡ decimal n
std_decimal_is n h =
    decimal_by_steps (λ m ds. m < number_most → ds ≡ decimal m) (λ m l s. sym (decimal_one m l))
    (λ m ds l f s. ap (λ (x : List ℕ). x ++ (digit (m % 10) ∷ [])) (f (omega arith)) ∙ sym (decimal_more m l s)) n (omega arith) h
