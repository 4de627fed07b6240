-- `search::search_values` meets its contract. Assumes nothing.
use Rattle.values.proofs.Searching.{searched_promised}
use Rattle.values.proofs.search.search_values.Goals as goal

pub returns : goal.returns
returns c =
    searched_promised c.requires c.spread-takes.ensures c.settle.ensures c.fill.ensures
    c.fill-2.ensures c.fill-3.ensures
