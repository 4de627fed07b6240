-- The bytes so far spell the value, which they keep below 16 to their number.
use Rattle.std.proofs.Common.{◌+◌, ◌*◌, ◌^◌, ◌<◌}
use Rattle.replay.specs.Words.{Spelled}
use Rattle.replay.proofs.words.Reader.hex.Given as goal

abbrev pub invariant-loop-byte : goal.invariant-loop-byte
invariant-loop-byte l = (l.value < 2 ^ (4 * l.byte-index)) × Spelled 16 l.self.text.now l.self.pos (l.self.pos + l.byte-index) l.value
