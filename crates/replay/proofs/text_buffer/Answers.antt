-- The array is as long as it is written. A search would go down it element by element.
use Rattle.std.proofs.Common.{ℕ, sym}
use Rattle.std.proofs.lemmas.List.{length-replicate}
use Rattle.replay.proofs.text_buffer.Goals as goal

pub returns : goal.returns
returns c = sym (length-replicate {0} {A = ℕ} 524288 0)
