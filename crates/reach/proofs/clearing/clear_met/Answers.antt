-- `clearing::clear_met` meets its contract. Assumes nothing.
use Rattle.reach.proofs.PutBack.{back_with}
use Rattle.reach.proofs.clearing.clear_met.Goals as goal

pub returns-then-include_adjacent : goal.returns-then-include_adjacent
returns-then-include_adjacent c = back_with c.requires c.put_back.ensures c.if-include_adjacent.true c.clear_beside.ensures
