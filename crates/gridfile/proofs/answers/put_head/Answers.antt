-- `answers::put_head` meets its contract: a tag and two bytes make a field's head. Assumes nothing.
use Rattle.gridfile.proofs.Stores.{head_stored}
use Rattle.gridfile.proofs.answers.put_head.Goals as goal

pub returns : goal.returns
returns c = head_stored c.args.tag c.args.len c.to_le_bytes.ensures c.put.ensures
