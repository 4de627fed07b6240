-- The bits are computed.
use Rattle.std.proofs.Common.{refl}
use Rattle.std.specs.Float.Ieee.{to_bits, of_bits, neg}
use Rattle.replay.proofs.buffers.F32Held.dirty.Goals as goal

pub returns : goal.returns
unfolding to_bits of_bits neg
returns c = refl
