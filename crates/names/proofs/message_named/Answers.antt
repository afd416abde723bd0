-- `names::message_named` meets its contract: the message at a place is the one, or those after it decide (the invariant stands beside).
-- Assumes nothing.
use Rattle.std.proofs.Common.{sym, ◌∙◌}
use Rattle.names.proofs.Named.{first_here, first_on}
use Rattle.names.proofs.message_named.Goals as goal

pub returns-then-eq : goal.returns-then-eq
returns-then-eq c = first_here _ _ _ _ _ _ c.loop-message-test.true c.name.ensures c.eq.ensures c.if-eq.true ∙ sym c.loop-message.invariant

pub loop-message-preserved : goal.loop-message-preserved
loop-message-preserved c = c.loop-message.invariant ∙ first_on _ _ _ _ _ _ c.loop-message-test.true c.name.ensures c.eq.ensures c.if-eq.false
