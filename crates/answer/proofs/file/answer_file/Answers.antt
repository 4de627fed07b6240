-- `file::answer_file` meets its contract: the file is judged first, and then its request is answered. Assumes nothing.
use mathlib.Core.Path.{sym, ◌∙◌}
use Rattle.answer.proofs.Sending.{short_refused, of_file}
use Rattle.answer.proofs.file.answer_file.Goals as goal

pub returns-in-Err : goal.returns-in-Err
returns-in-Err c =
    of_file c.args.input.now (sym c.parse.ensures ∙ c.in-Err.is) c.if-output-lt-LONGEST.false (short_refused 8 c.write_refused.ensures)
