-- Two stores, and the second finds the header that the first left.
-- Assumes nothing.
use Rattle.std.proofs.Common.{◌≡◌, sym, ◌∙◌, ap, subst, arith}
use Rattle.book.specs.Layout.{Shaped, activity_count}
use Rattle.book.specs.Lens.{state_shaped, state_at16}
use Rattle.book.proofs.put_outcome.Goals as goal

pub put_direction-requires : goal.put_direction-requires
put_direction-requires c =
    let x = c.args in
    let pre = c.requires in
    let e = c.put_state.ensures in
    let same : activity_count c.put_state.new.book ≡ activity_count x.book.now = ap activity_count e ∙ state_at16 _ _ _ pre.shaped 0 (omega arith) in
    record { shaped = subst Shaped (sym e) (state_shaped _ _ _ pre.shaped); k_bound = omega (arith, same, pre.k_value.1) }
