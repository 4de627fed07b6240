-- `neighbours::index` meets its contract. The row and the column are between the edges, so the index is below the number of cells. Assumes nothing.
use Rattle.cells.proofs.Bounds.{Bounded, bounded}
use Rattle.cells.proofs.Edges.{Inside, inside, index_sum_fits, index_cast, index_is}
use Rattle.cells.proofs.neighbours.index.Goals as goal
use Rattle.cells.proofs.neighbours.index.Goals.{Start}

bounds : (c : Start) → Bounded c.args.size
bounds c = bounded c.args.size c.requires.bounds

row_in : (c : Start) → Inside c.args.size.rows c.args.place.row
row_in c = inside c.args.size.rows c.args.place.row c.requires.row_in

col_in : (c : Start) → Inside c.args.size.cols c.args.place.col
col_in c = inside c.args.size.cols c.args.place.col c.requires.col_in

pub overflow_add-result : goal.overflow_add-result
overflow_add-result c = index_sum_fits c.args.size (bounds (goal.at.overflow_add-result c).Start) (row_in (goal.at.overflow_add-result c).Start) (col_in (goal.at.overflow_add-result c).Start)

pub overflow_cast-result : goal.overflow_cast-result
overflow_cast-result c = index_cast c.args.size (bounds (goal.at.overflow_cast-result c).Start) (row_in (goal.at.overflow_cast-result c).Start) (col_in (goal.at.overflow_cast-result c).Start)

pub returns : goal.returns
returns c = index_is c.args.size (bounds (goal.at.returns c).Start) (row_in (goal.at.returns c).Start) (col_in (goal.at.returns c).Start)
