-- Two things of which a definition says the same are one, where a way back from what it says is known.
-- Assumes nothing.
use Rattle.std.specs.Prelude.{◌≡◌}
use Rattle.std.proofs.Common.{sym, ◌∙◌, ap}

pub single_by : {A B : Type 0} (f : A → B) (g : B → A) → ((a : A) → g (f a) ≡ a) → (a b : A) → f a ≡ f b → a ≡ b
single_by f g back a b h = sym (back a) ∙ ap g h ∙ back b
