-- The number, and the byte where it ends.
-- Assumes nothing.
use Rattle.text.specs.Page.{wrote_next}
use Rattle.text.proofs.Page.field.Goals as goal

pub returns-clause-text : goal.returns-clause-text
returns-clause-text c = wrote_next c.number.ensures.text c.byte.ensures
