-- One more seat's line follows those before it; the invariant stands beside.
-- Assumes nothing.
use Rattle.std.proofs.Common.{arith, add-one, ◌≡◌, ◌∷◌, [], ◌++◌, ◌∙◌, sym, ap}
use Rattle.names.specs.Names.{bytes}
use Rattle.book.specs.declared.Seat.{Seat}
use Rattle.book.specs.Layout.{seat_count}
use Rattle.text.specs.Page.{wrote_none, wrote_next, wrote_same}
use Rattle.desk.specs.Desk.{ending, seat_lines}
use Rattle.desk.specs.Lines.{seat_parts}
use Rattle.desk.proofs.put_seats.Goals as goal

pub loop-n-init : goal.loop-n-init
loop-n-init c = record { text = wrote_none c.args.page.now (omega arith); most = omega arith }

pub loop-n-preserved : goal.loop-n-preserved
loop-n-preserved c =
    let v = c.loop-n.invariant in
    let b = c.args.book.now in
    let n = c.loop-n.n in
    let e = ap (λ (x : Seat). bytes "seat" ++ ending (n ∷ x.state ∷ [])) c.seat.ensures.value ∙ seat_parts b n in
    let w = wrote_next v.text (wrote_same e (wrote_next c.word.ensures c.put_ending.ensures.text)) in
    record { text = wrote_same (ap (seat_lines b) (sym (add-one n))) w; most = omega (arith, v.most, c.word.ensures.put.end, c.put_ending.ensures.most) }

pub returns : goal.returns
returns c =
    let e : c.loop-n.n ≡ seat_count c.args.book.now = omega arith in wrote_same (ap (seat_lines c.args.book.now) e) c.loop-n.invariant.text
