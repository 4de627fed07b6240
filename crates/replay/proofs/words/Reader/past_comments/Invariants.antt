-- Each comment leaves less to read.
use Rattle.std.proofs.Common.{◌-◌, length}
use Rattle.replay.specs.Reading.{GoesOn}
use Rattle.replay.proofs.words.Reader.past_comments.Given as goal

abbrev pub invariant-loop-self : goal.invariant-loop-self
invariant-loop-self l = GoesOn l.initial.self l.self

abbrev pub decreases-loop-self : goal.decreases-loop-self
decreases-loop-self l = length l.self.text.now - l.self.pos
