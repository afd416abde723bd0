-- `line::quick::way_at` meets its contract: the number that was compared is that of the way.
-- Assumes nothing.
use Rattle.std.proofs.Common.{◌≡◌, arith}
use Rattle.line.proofs.Found.{four_of, way_found}
use Rattle.line.proofs.quick.way_at.Goals as goal
use Rattle.line.proofs.quick.way_at.Goals.{then-word-eq-LETTER_S, else-word-eq-LETTER_S}

pub returns : goal.returns
returns c =
    let a = c.args in
    let word = c.u64_at-word in
    let i = c.if-word-eq-LETTER_S in
    let own : i.way'.1 ≡ four_of i.way'.0 =
    elim i.branch [
      | then-word-eq-LETTER_S w ↦ rw w.way'-is
      | else-word-eq-LETTER_S w ↦ rw w.way'-is
    ] in
    way_found a.rest.now a.at (λ k. (c.type_inv.rest k).fits) (omega arith) i.way'.0 word.result i.way'.1 word.ensures own (rw (← c.number.ensures) c.if-word-four.false)
