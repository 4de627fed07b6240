-- `answers::write_refused` meets its contract. Assumes nothing.
use mathlib.Core.Path.{sym, subst, ◌∙◌}
use Prim.Native.Nat.{ℕ, ◌≤◌}
use lib.ListN.{length}
use Rattle.std.proofs.Common.{Option}
use Rattle.rules.specs.Sizes.{refused}
use Rattle.gridfile.specs.Answers.{number_field, refusal, refusal_len, Stored, Written, answer_file}
use Rattle.gridfile.proofs.Bytes.{one_byte, four_bytes}
use Rattle.gridfile.proofs.Stores.{number_stored, number_long, stored_together, written, stored_length, number_field_long, refused_at_long}
use native.Mathlib.Omega.{arith}
use Rattle.gridfile.proofs.answers.write_refused.Goals as goal
use Rattle.gridfile.proofs.answers.write_refused.Goals.{After-put_field-next}

status : (c : After-put_field-next) → Stored (number_field 0x10 1 c.args.status) 0 c.args.output.now c.put_field-next.new.output c.put_field-next.result
status c = number_stored 0x10 1 c.args.status (one_byte c.args.status c.ranges.status.fits) c.put_field-next.ensures

pub put_field-requires-clause-room : goal.put_field-requires-clause-room
put_field-requires-clause-room c =
    let stored = status (goal.at.put_field-requires-clause-room c).After-put_field-next in
    let place = stored.place in
    let four = number_field_long 0x10 1 c.args.status in
    let long = stored_length stored in
    let digits = number_long 4 c.in-Some.index (c.to_le_bytes.ensures ∙ four_bytes c.in-Some.index) in
    let room = subst (λ (o : Option ℕ). refusal_len o ≤ length c.args.output.now) c.in-Some.is c.requires in
    omega arith

pub returns-in-Some : goal.returns-in-Some
returns-in-Some c =
    let a = c.args in
    let i = c.in-Some.index in
    let index = number_stored 0x11 4 i (c.to_le_bytes.ensures ∙ four_bytes i) c.put_field.ensures in
    let long = refused_at_long a.status i in
    let room = subst (λ (o : Option ℕ). refusal_len o ≤ length a.output.now) c.in-Some.is c.requires in
    subst (λ (o : Option ℕ). Written (answer_file (refused (refusal a.status o))) a.output.now c.put_field.new.output c.put_field.result) (sym c.in-Some.is)
    (written (stored_together (number_field 0x10 1 a.status) (number_field 0x11 4 i) (status (goal.at.returns-in-Some c).After-put_field-next) index) (omega arith))

pub returns-in-None : goal.returns-in-None
returns-in-None c =
    let a = c.args in
    let long = number_field_long 0x10 1 a.status in
    let room = subst (λ (o : Option ℕ). refusal_len o ≤ length a.output.now) c.in-None.is c.requires in
    subst (λ (o : Option ℕ). Written (answer_file (refused (refusal a.status o))) a.output.now c.put_field-next.new.output c.put_field-next.result) (sym c.in-None.is)
    (written (status (goal.at.returns-in-None c).After-put_field-next) (omega arith))
