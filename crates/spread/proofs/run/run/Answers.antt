-- `run::run` meets its contract. Before each turn so many cells were taken. Assumes nothing.
use mathlib.Core.Path.{refl, ap}
use Prim.Native.Nat.{◌*◌}
use Rattle.spread.proofs.Loans.{loans_same, loans_on}
use Rattle.spread.proofs.Making.{taking_next, none_took, one_took, more_took, ran_empty, ran_all}
use Rattle.spread.proofs.run.run.Goals as goal

pub loop-takes-init : goal.loop-takes-init
loop-takes-init g c = (none_took c.requires.runs.good, loans_same c.args.b.now)

pub returns-then-is_empty-clause-does : goal.returns-then-is_empty-clause-does
returns-then-is_empty-clause-does g c = ran_empty (more_took c.loop-takes.invariant.0 refl c.take_inner-takes.ensures.does) c.is_empty.ensures c.if-is_empty.true

pub loop-takes-preserved-then-takes-most : goal.loop-takes-preserved-then-takes-most
loop-takes-preserved-then-takes-most g c =
    let so_far = more_took c.loop-takes.invariant.0 refl c.take_inner-takes.ensures.does in
    (one_took so_far c.if-takes-most.true (taking_next so_far.made.good c.requires.runs.setting c.is_empty.ensures c.if-is_empty.false).some c.take_edge_cell-took.ensures.does, loans_on (loans_on c.loop-takes.invariant.1 c.take_inner-takes.ensures.same) c.take_edge_cell-took.ensures.same)

pub loop-takes-preserved : goal.loop-takes-preserved
loop-takes-preserved g c = (more_took c.loop-takes.invariant.0 refl c.take_inner-takes.ensures.does, loans_on c.loop-takes.invariant.1 c.take_inner-takes.ensures.same)

pub returns-clause-does : goal.returns-clause-does
returns-clause-does g c = ran_all c.loop-takes.invariant.0 (ap (λ n. n * n) c.cell_count-cells.ensures) c.requires.runs.ready c.loop-takes-test.false
