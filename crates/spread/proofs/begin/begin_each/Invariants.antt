use mathlib.Core.Path.{◌≡◌}
use Rattle.std.specs.Prelude.{not, eqb}
use Rattle.rules.specs.Sizes.{count}
use Rattle.spread.specs.declared.search.Search.{Search}
use Rattle.spread.specs.Buffers.{buffers}
use Rattle.spread.specs.Begin.{BeginsEach, BeganTo}
use Rattle.spread.proofs.begin.begin_each.Given as goal

abbrev pub invariant-loop-cell : goal.invariant-loop-cell
invariant-loop-cell g l = (search : Search) → l.end ≡ count search.size → BeginsEach search g.K.Targets.number (not (eqb g.row.CARRYING 0)) l.cap l.grids.targets.now l.grids.times.now l.grids.values.now l.initial.distances l.initial.carried l.initial.marks l.initial.queue
    → BeganTo search l.grids.targets.now l.grids.times.now l.grids.values.now l.cell l.initial.carried (buffers l.distances l.carried l.marks l.queue l.ring)
