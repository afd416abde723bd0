-- `journal::read_lines` meets its contract: a line more that is good is kept (`kept_good`), one that is refused ends the reading
-- (`kept_refused`), and at the end all lines are kept (`owed_good`).
-- Assumes nothing.
use Rattle.std.proofs.Common.{Err, rules, ◌≡◌, ◌+◌, ◌<◌, length, length-drop, refl, arith}
use Rattle.line.specs.Grammar.{Good, line_of}
use Rattle.line.specs.Places.{tail}
use Rattle.journal.specs.Journal.{has_room, roomed, lines_from, lines, number}
use Rattle.journal.proofs.Keeping.{some_left, none_left, room_left, kept_length, kept_none, kept_refused, line_within, kept_good, owed_refused, owed_good}
use Rattle.journal.proofs.read_lines.Goals as goal
use Rattle.journal.proofs.read_lines.Goals.{In-Ok}

pub loop-rest-init : goal.loop-rest-init
loop-rest-init c = record { each_a_byte = omega arith; in_run = omega arith; in_area = omega arith; kept = kept_none c.args.text.now c.args.area c.args.kept.now }

pub returns-in_default : goal.returns-in_default
returns-in_default c =
    let a = c.args in
    let l = c.loop-rest in
    let e = c.in_default.field-0 in
    let why = c.in_default.ensures in
    let line : e.line ≡ l.n + 1 = why.1 in
    let same : c.map.result ≡ Err e = search rules in
    rw (same, line)
    (owed_refused (lines_from a.area 0 (lines a.text.now)) l.kept a.area (number e.refusal) (l.n + 1)
    (kept_refused a.text.now a.area a.kept.now l.kept l.rest.now l.n l.invariant.kept (some_left l.rest.now c.loop-rest-test.ensures) (number e.refusal)
    (rw (c.has_room.ensures, c.next-next.ensures.said) at why.0)))

-- a line that is kept is good and has room
said : (c : In-Ok) → roomed (has_room c.args.area c.loop-rest.n) (line_of c.loop-rest.rest.now) ≡ Good c.in-Ok.event
said c = rw (c.has_room.ensures, c.next-next.ensures.said) at c.in-Ok.ensures

pub put_event-requires : goal.put_event-requires
put_event-requires c =
    let l = c.loop-rest in
    let some = some_left l.rest.now c.loop-rest-test.ensures in
    let room = room_left _ _ _ _ _ _ l.invariant.kept some c.in-Ok.event (rw (c.has_room.ensures, c.next-next.ensures.said) at c.in-Ok.ensures) in
    let same = kept_length _ _ _ _ _ _ l.invariant.kept in
    omega (arith, some, room, same)

-- and its newline stands in the text
within : (c : In-Ok) → c.next-next.result.size < length c.loop-rest.rest.now
within c =
    let l = c.loop-rest in
    (line_within _ _ _ _ _ _ l.invariant.kept (some_left l.rest.now c.loop-rest-test.ensures) c.in-Ok.event (said c) _ c.next-next.ensures.place).1

pub slice_bounds-rest-count : goal.slice_bounds-rest-count
slice_bounds-rest-count c = let w = within (goal.at.slice_bounds-rest-count c).In-Ok in omega (arith, w)

pub slice_bounds-rest-start : goal.slice_bounds-rest-start
slice_bounds-rest-start c = let w = within (goal.at.slice_bounds-rest-start c).In-Ok in omega (arith, w)

pub loop-rest-preserved : goal.loop-rest-preserved
loop-rest-preserved c =
    let l = c.loop-rest in
    let size = c.next-next.result.size in
    let some = some_left l.rest.now c.loop-rest-test.ensures in
    let good : roomed (has_room c.args.area l.n) (line_of l.rest.now) ≡ Good c.in-Ok.event = rw (c.has_room.ensures, c.next-next.ensures.said) at c.in-Ok.ensures in
    let place = c.next-next.ensures.place in
    let room = room_left _ _ _ _ _ _ l.invariant.kept some c.in-Ok.event good in
    let w = (line_within _ _ _ _ _ _ l.invariant.kept some c.in-Ok.event good size place).1 in
    let more = kept_good _ _ _ _ _ _ l.invariant.kept some c.in-Ok.event good size place _ c.put_event.ensures in
    let rest = tail (size + 1) l.rest.now in
    record {
      each_a_byte = rw rest (simp length-drop (omega (arith, w)));
      in_run = omega (arith, room);
      in_area = omega (arith, room);
      kept = rw rest more;
    }

pub returns : goal.returns
returns c =
    let a = c.args in
    let l = c.loop-rest in
    let end = none_left l.rest.now c.loop-rest-test.ensures in
    owed_good (lines_from a.area 0 (lines a.text.now)) l.kept a.area a.text.now a.kept.now l.rest.now l.n refl l.invariant.kept end (omega arith)
    (omega (arith, kept_length _ _ _ _ _ _ l.invariant.kept)) _ (omega arith)
