-- The word is copied over as many bytes of the area (`put_over`).
-- Assumes nothing.
use Rattle.std.proofs.Common.{refl, arith, length, ◌+◌, ◌-◌}
use Rattle.text.specs.Laws.{put_over, put_length}
use Rattle.text.proofs.Page.word.Goals as goal

pub returns : goal.returns
returns c =
    let p = c.args.self.now in
    let w = c.args.word.now in
    let f = put_over p.area.now w p.size (p.size + length w - p.size) (omega arith) (omega arith) in
    rw c.copy_from_slice.ensures.after (record { same_reference = refl; same_length = put_length f; put = f })
