-- A good book has the shape that its view asks for.
-- Assumes nothing.
use Rattle.run.proofs.Ends.{good_shaped}
use Rattle.run.proofs.step.Goals as goal

pub of-view-requires : goal.of-view-requires
of-view-requires c = good_shaped _ c.requires
