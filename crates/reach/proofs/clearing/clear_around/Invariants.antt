use mathlib.Core.Path.{◌≡◌}
use lib.ListN.{take}
use Rattle.rules.specs.Cells.{neighbours}
use Rattle.rules.specs.Sums.{adjacent_offsets}
use Rattle.reach.specs.Clearing.{put_back}
use Rattle.reach.proofs.clearing.clear_around.Given as goal

abbrev pub invariant-loop-offset : goal.invariant-loop-offset
invariant-loop-offset l = (l.met ≡ put_back 0 l.initial.met (neighbours l.size l.cell (take l.offset-index adjacent_offsets)))
