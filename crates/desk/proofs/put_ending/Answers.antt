-- One more number follows those before it (`spaced_more`); the invariant stands beside.
-- Assumes nothing.
use Rattle.std.proofs.Common.{arith, ap, ◌++◌, ◌∷◌, [], take_all}
use Rattle.line.specs.Grammar.{newline}
use Rattle.text.specs.Page.{wrote_none, wrote_next, wrote_same}
use Rattle.desk.specs.Desk.{spaced, ending}
use Rattle.desk.specs.Lines.{spaced_more}
use Rattle.desk.proofs.put_ending.Goals as goal

pub loop-number-init : goal.loop-number-init
loop-number-init c = record { text = wrote_none c.args.page.now (omega arith); most = omega arith }

pub loop-number-preserved : goal.loop-number-preserved
loop-number-preserved c =
    let v = c.loop-number.invariant in
    let w = wrote_next v.text (wrote_next c.byte.ensures c.number.ensures.text) in
    record {
      text = wrote_same (spaced_more c.args.numbers.now c.loop-number.number-index (omega arith)) w;
      most = omega (arith, v.most, c.byte.ensures.put.end, c.number.ensures.most);
    }

pub returns-clause-text : goal.returns-clause-text
unfolding ending
returns-clause-text c =
    let ns = c.args.numbers.now in
    wrote_same (ap (λ l. spaced l ++ (newline ∷ [])) (take_all c.loop-number.number-index ns (omega arith)))
    (wrote_next c.loop-number.invariant.text c.byte-2.ensures)
