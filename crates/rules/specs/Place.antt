-- A seat's place, which is its role, table and state as one number below 64, and what the tables say at a place.
-- Assumes nothing.
use Rattle.std.specs.Prelude.{◌≡◌, ℕ, ◌+◌, ◌*◌, ◌/◌, ◌%◌, ◌≤◌, true}
use Rattle.std.proofs.Common.{sym, ◌∙◌, arith}
use Rattle.rules.specs.declared.Entry.{Entry}
use Rattle.rules.specs.Rules.{has_state, line_of, entry_of}
use Rattle.rules.specs.Laws.{has_state_lem, entry_line}

-- 32 places a role, 16 a table, the first of both at 0
abbrev pub place_of : ℕ → ℕ → ℕ → ℕ
place_of role table s = (32 * role + 16 * table + s + 16) % 64

abbrev pub role_at : ℕ → ℕ
role_at place = place / 32 % 2 + 1

abbrev pub table_at : ℕ → ℕ
table_at place = place / 16 % 2 + 1

abbrev pub state_at : ℕ → ℕ
state_at place = place % 16

-- what the lines say at a place, whether or not it is that of a state
unfoldable pub entry_at : ℕ → ℕ → ℕ → Entry
entry_at place way m = line_of (role_at place) (table_at place) way m (state_at place)

-- a role, a table and a state in range are found again at their place
pub record Placed (role table s : ℕ) : Type 0 where
  pub role_is : role_at (place_of role table s) ≡ role
  pub table_is : table_at (place_of role table s) ≡ table
  pub state_is : state_at (place_of role table s) ≡ s

pub placed : (role table s : ℕ) → 1 ≤ role → role ≤ 2 → 1 ≤ table → table ≤ 2 → s ≤ 15 → Placed role table s
placed role table s r₁ r₂ t₁ t₂ h = record { role_is = omega arith; table_is = omega arith; state_is = omega arith }

pub place_entry : (role table way m s : ℕ) → has_state role table s ≡ true → entry_at (place_of role table s) way m ≡ entry_of role table way m s
unfolding entry_at
place_entry role table way m s h =
    let i = has_state_lem role table s h in
    let p = placed role table s i.role_low i.role_high i.table_low i.table_high i.high in
    (λ j. line_of (p.role_is j) (p.table_is j) way m (p.state_is j)) ∙ sym (entry_line role table way m s h)
