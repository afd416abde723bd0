-- The event's number, and the seven others that end its line.
-- Assumes nothing.
use Rattle.text.specs.Page.{wrote_next, wrote_same}
use Rattle.desk.specs.Lines.{event_parts}
use Rattle.desk.proofs.put_event.Goals as goal

pub returns-clause-text : goal.returns-clause-text
returns-clause-text c = wrote_same (event_parts c.args.n c.args.event c.args.answer) (wrote_next c.number.ensures.text c.put_ending.ensures.text)
