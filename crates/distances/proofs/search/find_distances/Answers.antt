-- `search::find_distances` meets its contract. Assumes nothing.
use Rattle.distances.proofs.Searching.{found_promised}
use Rattle.distances.proofs.search.find_distances.Goals as goal

pub returns : goal.returns
returns c = found_promised (c.requires.spreads _) c.spread-takes.ensures c.fill.ensures c.fill-2.ensures
