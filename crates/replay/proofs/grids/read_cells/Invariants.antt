-- Each cell is further on in the text.
use Rattle.replay.specs.Reading.{GoesOn}
use Rattle.replay.proofs.grids.read_cells.Given as goal

abbrev pub invariant-loop-cell : goal.invariant-loop-cell
invariant-loop-cell g l = GoesOn l.initial.reader l.reader
