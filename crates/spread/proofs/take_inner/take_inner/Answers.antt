-- `take_inner::take_inner` meets its contract. Before each turn so many cells were taken. Assumes nothing.
use Rattle.spread.proofs.Loans.{loans_same, loans_on}
use Rattle.spread.proofs.Making.{taking_inner, none_took, one_took}
use Rattle.spread.proofs.take_inner.take_inner.Goals as goal

pub loop-takes-init : goal.loop-takes-init
loop-takes-init g c = (none_took c.requires.some.good, loans_same c.args.b.now)

pub take_inner_cell-took-requires : goal.take_inner_cell-took-requires
take_inner_cell-took-requires g c = taking_inner c.loop-takes.invariant.0.made.good c.requires.some.setting c.requires.numbered c.is_next_inner.ensures c.if-is_next_inner.true

pub loop-takes-preserved : goal.loop-takes-preserved
loop-takes-preserved g c = (one_took c.loop-takes.invariant.0 c.loop-takes-test.true (c.is_next_inner.ensures.some c.if-is_next_inner.true) c.take_inner_cell-took.ensures.does, loans_on c.loop-takes.invariant.1 c.take_inner_cell-took.ensures.same)
