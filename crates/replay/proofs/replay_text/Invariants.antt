-- Each case leaves less to read.
use Rattle.std.proofs.Common.{◌≤◌, ◌-◌, length}
use Rattle.replay.proofs.replay_text.Given as goal

abbrev pub invariant-loop-reader : goal.invariant-loop-reader
invariant-loop-reader l = l.count ≤ l.reader.pos

abbrev pub decreases-loop-reader : goal.decreases-loop-reader
decreases-loop-reader l = length l.text - l.reader.pos
