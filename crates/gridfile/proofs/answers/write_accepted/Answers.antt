-- `answers::write_accepted` meets its contract. Assumes nothing.
use mathlib.Core.Path.{◌∙◌}
use mathlib.Core.List.{◌++◌}
use Rattle.gridfile.specs.Answers.{number_field, grid_field, Stored}
use Rattle.gridfile.proofs.Bytes.{one_byte, eight_bytes}
use Rattle.gridfile.proofs.Stores.{number_stored, number_long, stored_together, written, grid_stored, stored_length, number_field_long, head_long, accepted_long}
use Prim.Native.Nat.{◌*◌}
use lib.ListN.{length}
use native.Mathlib.Omega.{arith}
use Rattle.gridfile.proofs.answers.write_accepted.Goals as goal
use Rattle.gridfile.proofs.answers.write_accepted.Goals.{After-put_field-next, After-put_field-next-2}

status : (c : After-put_field-next) → Stored (number_field 0x10 1 0) 0 c.args.output.now c.put_field-next.new.output c.put_field-next.result
status c = number_stored 0x10 1 0 (one_byte 0 (omega arith)) c.put_field-next.ensures

takes : (c : After-put_field-next-2) → Stored (number_field 0x12 8 c.args.takes) c.put_field-next.result c.put_field-next.new.output c.put_field-next-2.new.output c.put_field-next-2.result
takes c = number_stored 0x12 8 c.args.takes (c.to_le_bytes.ensures ∙ eight_bytes c.args.takes) c.put_field-next-2.ensures

pub put_field-next-requires-2-clause-room : goal.put_field-next-requires-2-clause-room
put_field-next-requires-2-clause-room c =
    let stored = status (goal.at.put_field-next-requires-2-clause-room c).After-put_field-next in
    let place = stored.place in
    let four = number_field_long 0x10 1 0 in
    let long = stored_length stored in
    let digits = number_long 8 c.args.takes (c.to_le_bytes.ensures ∙ eight_bytes c.args.takes) in
    omega (arith, c.requires)

pub put_head-next-requires : goal.put_head-next-requires
put_head-next-requires c =
    let at = goal.at.put_head-next-requires c in
    let stored = status at.After-put_field-next in
    let stored₂ = takes at.After-put_field-next-2 in
    let place = stored.place in
    let place₂ = stored₂.place in
    let four = number_field_long 0x10 1 0 in
    let eleven = number_field_long 0x12 8 c.args.takes in
    let long = stored_length stored in
    let long₂ = stored_length stored₂ in
    omega (arith, c.requires)

pub put_floats-requires : goal.put_floats-requires
put_floats-requires c =
    let at = goal.at.put_floats-requires c in
    let a = c.args in
    let stored = status at.After-put_field-next in
    let stored₂ = takes at.After-put_field-next-2 in
    let stored₃ = c.put_head-next.ensures in
    let place = stored.place in
    let place₂ = stored₂.place in
    let place₃ = stored₃.place in
    let four = number_field_long 0x10 1 0 in
    let eleven = number_field_long 0x12 8 a.takes in
    let three = head_long 0x13 (4 * length a.grid.now) in
    let long = stored_length stored in
    let long₂ = stored_length stored₂ in
    let long₃ = stored_length stored₃ in
    omega (arith, c.requires)

pub returns : goal.returns
returns c =
    let at = goal.at.returns c in
    let a = c.args in
    let grid = a.grid.now in
    let of_status = number_field 0x10 1 0 in
    let of_takes = number_field 0x12 8 a.takes in
    let long = accepted_long a.takes grid in
    written
    (stored_together (of_status ++ of_takes) (grid_field 0x13 grid)
    (stored_together of_status of_takes (status at.After-put_field-next) (takes at.After-put_field-next-2))
    (grid_stored grid c.put_head-next.ensures c.put_floats.ensures))
    (omega (arith, c.requires))
