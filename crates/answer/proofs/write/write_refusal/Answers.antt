-- `write::write_refusal` meets its contract. Assumes nothing.
use Rattle.std.proofs.Common.{refl}
use Rattle.answer.proofs.Sending.{of_number, short_refusal}
use Rattle.answer.proofs.write.write_refusal.Goals as goal

pub returns : goal.returns
returns c =
    let numbered = c.from-numbered.result in
    of_number numbered c.from-numbered.ensures refl (short_refusal numbered.number numbered.index c.write_refused.ensures)
