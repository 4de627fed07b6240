-- `waiting::begin_waiting` meets its contract. Assumes nothing.
use Rattle.spread.proofs.Waits.{begin_room, began_waiting, began_resting}
use Rattle.spread.proofs.waiting.begin_waiting.Goals as goal

pub push-requires : goal.push-requires
push-requires c = begin_room c.requires

pub returns-then-starts : goal.returns-then-starts
returns-then-starts c = began_waiting c.requires c.if-starts.true c.push.ensures

pub returns : goal.returns
returns c = began_resting c.requires c.if-starts.false
