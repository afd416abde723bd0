-- One more event's line follows those before it (`next_line`); the invariant stands beside.
-- Assumes nothing.
use Rattle.std.proofs.Common.{◌+◌, ◌*◌, ◌/◌, arith, ◌≡◌, ◌∙◌, ap, ◌++◌, length}
use Rattle.records.specs.declared.Event.{Event}
use Rattle.records.specs.Records.{first_events}
use Rattle.demands.specs.Groups.{first_answers}
use Rattle.text.specs.Page.{wrote_none, wrote_next, wrote_same}
use Rattle.desk.specs.Desk.{event_line, event_lines}
use Rattle.desk.specs.Lines.{next_line, seat_most}
use Rattle.desk.proofs.put_events.Goals as goal

pub loop-i-init : goal.loop-i-init
loop-i-init c = record { text = wrote_none c.args.page.now (omega arith); most = omega arith }

pub put_event-requires : goal.put_event-requires
put_event-requires c =
    let i = c.loop-i.i in
    let g = c.type_inv.events in
    let m = ap (λ (e : Event). e.seat) c.read_event.ensures in
    record {
      few_digits = (omega arith, omega (arith, m, seat_most c.args.events.now i (omega (arith, g (4 * i))) (omega (arith, g (4 * i + 1)))));
      room = omega (arith, c.loop-i.invariant.most, c.loop-i.invariant.text.same_length);
    }

pub loop-i-preserved : goal.loop-i-preserved
loop-i-preserved c =
    let ev = c.args.events.now in
    let an = c.args.answers.now in
    let v = c.loop-i.invariant in
    let i = c.loop-i.i in
    let p = c.put_event.ensures in
    let lines = event_lines 1 (first_events ev i) (first_answers i an) in
    let e = (λ j. lines ++ event_line (i + 1) (c.read_event.ensures j) (c.read_answer.ensures j)) ∙ next_line ev an i (omega arith) in
    record { text = wrote_same e (wrote_next v.text p.text); most = omega (arith, v.most, p.most) }

pub returns : goal.returns
returns c =
    let v = c.loop-i.invariant in
    let e : c.loop-i.i ≡ length c.args.events.now / 4 = omega arith in
    let all = ap (λ n. event_lines 1 (first_events c.args.events.now n) (first_answers n c.args.answers.now)) e in
    record { text = wrote_same all v.text; most = omega (arith, v.most) }
