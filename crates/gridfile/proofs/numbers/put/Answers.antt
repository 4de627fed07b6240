-- `numbers::put` meets its contract. Assumes nothing.
use Rattle.gridfile.proofs.Stores.{stored_part}
use Rattle.gridfile.proofs.numbers.put.Goals as goal

pub returns : goal.returns
returns c = stored_part c.args.output.now c.args.bytes.now c.args.at c.copy_from_slice.ensures.after c.requires
