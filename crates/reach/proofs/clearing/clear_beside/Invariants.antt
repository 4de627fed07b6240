use mathlib.Core.Path.{◌≡◌}
use lib.ListN.{take}
use Rattle.reach.specs.Adjacent.{beside}
use Rattle.reach.specs.Clearing.{put_back}
use Rattle.reach.proofs.clearing.clear_beside.Given as goal

abbrev pub invariant-loop-cell : goal.invariant-loop-cell
invariant-loop-cell l = l.met ≡ put_back 0 l.initial.met (beside l.size (take l.cell-index l.listed))
