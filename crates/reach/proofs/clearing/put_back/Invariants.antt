use mathlib.Core.Path.{◌≡◌}
use lib.ListN.{take}
use Rattle.reach.specs.Clearing.{put_back}
use Rattle.reach.proofs.clearing.put_back.Given as goal

abbrev pub invariant-loop-cell : goal.invariant-loop-cell
invariant-loop-cell g l = l.cells ≡ put_back l.value l.initial.cells (take l.cell-index l.listed)
