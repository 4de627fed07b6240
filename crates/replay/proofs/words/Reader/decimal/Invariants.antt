-- The bytes since the start spell the value.
use Rattle.std.proofs.Common.{◌+◌, ◌≤◌, ◌≡◌}
use Rattle.replay.specs.Words.{Spelled}
use Rattle.replay.proofs.words.Reader.decimal.Given as goal

abbrev pub invariant-loop-byte : goal.invariant-loop-byte
invariant-loop-byte l = (l.pos ≡ l.start + l.byte-index) × (l.value ≤ l.most) × Spelled 10 l.self.text.now l.start l.pos l.value
