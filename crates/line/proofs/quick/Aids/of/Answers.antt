-- `line::quick::Aids::of` meets its contract: the aids are 320 bytes.
-- Assumes nothing.
use Rattle.line.proofs.Rows.{aids_length}
use Rattle.line.proofs.quick.Aids.of.Goals as goal

pub invariant_of-result : goal.invariant_of-result
invariant_of-result c = record { known = c.requires; size = aids_length _ c.requires }
