-- `search::search_distances` meets its contract. Assumes nothing.
use Rattle.distances.proofs.Searching.{scaled_promised}
use Rattle.distances.proofs.search.search_distances.Goals as goal

pub returns : goal.returns
returns c = scaled_promised c.args.search _ c.find_distances-found.ensures c.args.spacing c.scale.ensures
