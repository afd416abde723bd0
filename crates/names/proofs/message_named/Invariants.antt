-- `names::message_named` meets its contract. The invariant: the messages that are left decide.
-- Assumes nothing.
use Rattle.std.proofs.Common.{◌≡◌, drop}
use Rattle.names.specs.Names.{message_named}
use Rattle.names.proofs.Named.{first_of}
use Rattle.names.proofs.message_named.Given as goal

abbrev pub invariant-loop-message : goal.invariant-loop-message
invariant-loop-message l = message_named l.part ≡ first_of l.part (drop l.message-index l.message-items)
