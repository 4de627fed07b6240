-- `steps::is_between_obstacles` meets its contract. Assumes nothing.
use Rattle.spread.proofs.Permits.{not_between, between_if}
use Rattle.spread.proofs.steps.is_between_obstacles.Goals as goal

pub returns-then-is_free : goal.returns-then-is_free
returns-then-is_free c = not_between c.crossing-one.ensures c.is_free.ensures c.if-is_free.true

pub returns : goal.returns
returns c = between_if c.crossing-one.ensures c.is_free.ensures c.if-is_free.false c.crossing-other.ensures c.is_free-2.ensures
