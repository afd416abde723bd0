-- `journal::read` meets its contract: a text that is too long is refused; for any other there is room aside for its events.
-- Assumes nothing.
use Rattle.std.proofs.Common.{ℕ, arith}
use Rattle.std.proofs.lemmas.List.{length-replicate}
use Rattle.journal.proofs.Keeping.{read_none}
use Rattle.journal.proofs.read.Goals as goal

pub returns-then-text-gt-TEXT_MOST : goal.returns-then-text-gt-TEXT_MOST
returns-then-text-gt-TEXT_MOST c =
    let none = read_none c.args.text.now c.args.area.now c.if-text-gt-TEXT_MOST.true in
    record { value = none.0; bytes = none.1 }

pub read_aside-requires : goal.read_aside-requires
read_aside-requires c = record { text = omega arith; room = omega (arith, length-replicate {A = ℕ} 1024 0) }

pub read_aside-requires-2 : goal.read_aside-requires-2
read_aside-requires-2 c = record { text = omega arith; room = omega (arith, length-replicate {A = ℕ} 16384 0) }
