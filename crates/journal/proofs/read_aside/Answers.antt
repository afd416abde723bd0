-- `journal::read_aside` meets its contract: the records of the lines are copied out, and of a refusal there are none.
-- Assumes nothing.
use Rattle.std.proofs.Common.{◌≡◌, Err, [], refl, rules}
use Rattle.journal.proofs.Keeping.{read_value, copied_out}
use Rattle.journal.proofs.read_aside.Goals as goal

pub returns-in_err-count-clause-value : goal.returns-in_err-count-clause-value
returns-in_err-count-clause-value c =
    let same : c.from_residual.result ≡ Err c.in_err-count.field-0.0 = search rules in
    rw same (read_value c.args.text.now c.args.area.now c.requires.text c.read_lines.new.kept _ c.in_err-count.ensures)

pub returns-in_err-count-clause-bytes : goal.returns-in_err-count-clause-bytes
returns-in_err-count-clause-bytes c = copied_out c.args.text.now c.args.area.now c.requires.text c.read_lines.new.kept _ c.in_err-count.ensures [] refl

pub returns-clause-value : goal.returns-clause-value
returns-clause-value c = read_value c.args.text.now c.args.area.now c.requires.text c.read_lines.new.kept _ c.in_ok-count.ensures

pub returns-clause-bytes : goal.returns-clause-bytes
returns-clause-bytes c =
    copied_out c.args.text.now c.args.area.now c.requires.text c.read_lines.new.kept _ c.in_ok-count.ensures c.copy_from_slice.new.self c.copy_from_slice.ensures.after
