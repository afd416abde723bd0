-- `line::quick::put_row` meets its contract: what is put is what the definition puts.
-- Assumes nothing.
use Rattle.std.proofs.Common.{◌≡◌, ◌-◌, ◌≤◌, ℕ, List, length, sym, ap, ◌∙◌, arith, length-set}
use Rattle.names.specs.declared.Message.{Message}
use Rattle.names.specs.Names.{name_of}
use Rattle.names.specs.Numbers.{message_number}
use Rattle.names.specs.Laws.{message_range}
use Rattle.line.specs.Quick.{with_row, rows_to}
use Rattle.line.specs.Reads.{name_word}
use Rattle.line.proofs.Rows.{rows_on, rows_length}
use Rattle.line.proofs.quick.put_row.Goals as goal

-- how long the two are
sizes : (m : Message) (aids name : List ℕ) → aids ≡ rows_to (message_number m - 1) → name ≡ name_of (message_number m)
    → (message_number m ≤ 14) × (length aids ≡ 320) × (length name ≤ 14)
sizes m aids name a n =
    let most = (message_range m).1 in
    (most, ap length a ∙ rows_length _ (omega arith), omega (arith, ap length n, (name_word (message_number m) most).short))

pub put-requires : goal.put-requires
put-requires c = let s = sizes _ _ _ c.requires c.name-name.ensures in omega (arith, s)

pub bounds-aids-at : goal.bounds-aids-at
bounds-aids-at c = let s = sizes _ _ _ c.requires c.name-name.ensures in omega (arith, s)

pub bounds-aids-at-2 : goal.bounds-aids-at-2
bounds-aids-at-2 c = let s = sizes _ _ _ c.requires c.name-name.ensures in simp length-set (omega (arith, s))

pub returns : goal.returns
unfolding with_row
returns c = rw (c.put.ensures.bytes, c.number.ensures, c.name-name.ensures, c.requires) (sym (rows_on _ (message_range c.args.message).0))
