-- One store is one byte at a place (`put_one`).
-- Assumes nothing.
use Rattle.std.proofs.Common.{arith, rules}
use Rattle.text.specs.Laws.{put_one}
use Rattle.text.proofs.Page.byte.Goals as goal

pub returns : goal.returns
returns c =
    let p = c.args.self.now in record { same_reference = search rules; same_length = search rules; put = put_one p.area.now p.size c.args.byte (omega arith) }
