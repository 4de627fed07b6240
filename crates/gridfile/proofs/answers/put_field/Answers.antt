-- `answers::put_field` meets its contract. Assumes nothing.
use lib.ListN.{length}
use Rattle.gridfile.specs.Answers.{field_head}
use Rattle.gridfile.proofs.Stores.{stored_together, stored_length, head_long}
use native.Mathlib.Omega.{arith}
use Rattle.gridfile.proofs.answers.put_field.Goals as goal

pub put-requires : goal.put-requires
put-requires c =
    let a = c.args in
    let stored = c.put_head-next.ensures in
    let place = stored.place in
    let three = head_long a.tag (length a.content.now) in
    let long = stored_length stored in
    omega (arith, c.requires)

pub returns : goal.returns
returns c = let a = c.args in stored_together (field_head a.tag (length a.content.now)) a.content.now c.put_head-next.ensures c.put.ensures
