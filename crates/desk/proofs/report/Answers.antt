-- The text stands at the front of the area.
-- Assumes nothing.
use Rattle.std.proofs.Common.{rules}
use Rattle.text.specs.Laws.{at_front}
use Rattle.desk.proofs.report.Goals as goal

pub returns-clause-text : goal.returns-clause-text
returns-clause-text c = let q = at_front c.put_report.ensures.text.put in search rules
