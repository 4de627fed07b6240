-- `write::write_answer` meets its contract. Assumes nothing.
use Rattle.answer.proofs.Sending.{of_answer, short_accepted}
use Rattle.answer.proofs.write.write_answer.Goals as goal

pub returns-in-Ok : goal.returns-in-Ok
returns-in-Ok c =
    let cells = c.args.cells.now in
    of_answer cells c.in-Ok.is (short_accepted c.in-Ok.counts.takes cells c.requires.few_cells c.write_accepted.ensures)
