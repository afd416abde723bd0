-- What is printed and left is what the input comes to.
-- Assumes nothing.
use Rattle.std.proofs.Common.{◌++◌, ◌∙◌, sym, ap, List, ℕ, drop}
use Rattle.text.specs.Page.{wrote_same}
use Rattle.desk.specs.Desk.{printed, report_of}
use Rattle.desk.specs.Ends.{refused_after, worked_after}
use Rattle.desk.proofs.put_report.Goals as goal

pub returns-in-Ok : goal.returns-in-Ok
unfolding report_of
returns-in-Ok c =
    let i = c.args.input.now in
    let p = c.put_worked.ensures in
    record {
      text = wrote_same (ap printed (sym c.in-Ok.ensures.come)) p.text;
      input = ap (λ (b : List ℕ). b ++ drop c.in-Ok.work.book i) p.book ∙ worked_after i c.judge.new.area c.in-Ok.work c.in-Ok.ensures;
    }

pub returns-in-Err : goal.returns-in-Err
unfolding report_of
returns-in-Err c =
    let h = c.in-Err.ensures in
    record { text = wrote_same (ap printed (sym h.come)) c.put_refusal.ensures; input = refused_after c.args.input.now c.in-Err.refusal h }
