-- Of each kind the sum says what the definition says.
-- Assumes nothing.
use Rattle.std.proofs.Common.{◌≡◌, sym, ◌∙◌, false, cond, ◌&&◌, ⊎_elim, ℕ, ◌+◌, ◌*◌, ◌≤◌, ◌<◌, arith, eqb, leb, eq-eqb, ne_eqb, le-leb}
use mathlib.Core.Bool.{and-false}
use Rattle.std.proofs.lemmas.Bool.{lt-leb}
use Rattle.lemmas.specs.Orders.{same_or, below_or}
use Rattle.book.specs.Book.{activity_good}
use Rattle.book.proofs.Activity.is_good.Goals as goal

module _ (kind d : ℕ) where
  one : kind ≡ 1 → leb (2 * kind + d) 4 ≡ leb d 2
  one e =
      ⊎_elim (λ (l : 2 < d). lt-leb (2 * kind + d) 4 (omega arith) ∙ sym (lt-leb d 2 l)) (λ (l : d ≤ 2). le-leb (2 * kind + d) 4 (omega arith) ∙ sym (le-leb d 2 l))
      (below_or 2 d)

  two : kind ≡ 2 → leb (2 * kind + d) 4 ≡ eqb d 0
  two e =
      ⊎_elim (λ (z : d ≡ 0). le-leb (2 * kind + d) 4 (omega arith) ∙ sym (eq-eqb d 0 z)) (λ n. lt-leb (2 * kind + d) 4 (omega (arith, e, n)) ∙ sym (ne_eqb d 0 n))
      (same_or d 0)

  other : (kind ≡ 1 → ⊥) → (kind ≡ 2 → ⊥) → (leb 1 kind && leb (2 * kind + d) 4) ≡ false
  other n m =
      ⊎_elim (λ (l : kind < 1). simp (lt-leb 1 kind l)) (λ (l : 1 ≤ kind). simp (lt-leb (2 * kind + d) 4 (omega (arith, l, n, m)), and-false))
      (below_or kind 1)

  sum_good : (leb 1 kind && leb (2 * kind + d) 4) ≡ cond (eqb kind 1) (leb d 2) (eqb kind 2 && eqb d 0)
  sum_good =
      ⊎_elim (λ (e : kind ≡ 1). simp (eq-eqb kind 1 e, le-leb 1 kind (omega arith)) (one e))
      (λ n. ⊎_elim (λ (e : kind ≡ 2). simp (ne_eqb kind 1 n, eq-eqb kind 2 e, le-leb 1 kind (omega arith)) (two e))
      (λ m. simp (ne_eqb kind 1 n, ne_eqb kind 2 m) (other n m))
      (same_or kind 2))
      (same_or kind 1)

pub returns : goal.returns
unfolding activity_good
returns c = sum_good c.args.self.kind c.args.self.direction
