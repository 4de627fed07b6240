-- `run::spread` meets its contract. Assumes nothing.
use Rattle.std.proofs.Common.{rules}
use Rattle.spread.proofs.Running.{begun_runs, spread_ends, spread_lent}
use Rattle.spread.proofs.run.spread.Goals as goal

pub run_by_rule-requires : goal.run_by_rule-requires
run_by_rule-requires c = begun_runs c.requires c.begin_cells-ring.ensures

pub returns : goal.returns
returns c = spread_lent (search rules) (search rules) (search rules) (search rules) (spread_ends c.requires c.begin_cells-ring.ensures c.run_by_rule.ensures.does)
