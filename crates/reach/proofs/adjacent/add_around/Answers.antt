-- `adjacent::add_around` meets its contract: before each turn the neighbours at the offsets that were passed have been tried. Assumes nothing.
use mathlib.Core.List.{[]}
use mathlib.Core.Path.{◌≡◌, sym, ap, ◌∙◌}
use lib.ListN.{get_or}
use Rattle.std.specs.Prelude.{option_to_list}
use Rattle.cells.specs.Neighbours.{CellOf}
use Rattle.cells.proofs.Storing.{stepping}
use Rattle.rules.specs.Cells.{neighbour}
use Rattle.rules.specs.Sums.{adjacent_offsets}
use Rattle.reach.proofs.Adjoining.{adjoins_none}
use Rattle.reach.proofs.Around.{steps, still_fitting, trying_there, around_none, around_more}
use Rattle.reach.proofs.adjacent.add_around.Goals as goal
use Rattle.reach.proofs.adjacent.add_around.Goals.{Start, After-neighbour_at, in-Some, in_default}

cell_of : (c : Start) → CellOf c.args.reach.size c.args.cell
cell_of c = record { bounds = c.requires.fits.bounds; below = c.requires.inside }

-- The offset of this turn leads to the neighbour of the rules.
led :
    (c : After-neighbour_at)
    → let a = c.args in
    option_to_list c.neighbour_at.result ≡ neighbour a.reach.size a.cell (get_or adjacent_offsets c.loop-offset.offset-index [])
led c = c.neighbour_at.ensures.leads c.args.cell c.place_of-place.ensures

pub loop-offset-init : goal.loop-offset-init
loop-offset-init c = around_none c.args.reach.size c.args.cell

pub neighbour_at-requires : goal.neighbour_at-requires
neighbour_at-requires c = stepping (cell_of (goal.at.neighbour_at-requires c).Start) c.place_of-place.ensures steps c.loop-offset.offset-index

pub add_once-total-requires : goal.add_once-total-requires
add_once-total-requires c =
    let at = c.loop-offset in
    trying_there c.args.cell (get_or adjacent_offsets at.offset-index []) (still_fitting c.requires.fits at.invariant.same_length)
    (ap option_to_list (sym c.in-Some.is) ∙ led (goal.at.add_once-total-requires c).After-neighbour_at)

pub loop-offset-preserved : goal.loop-offset-preserved
loop-offset-preserved c =
    let at = c.loop-offset in
    let to = led (goal.at.loop-offset-preserved c).After-neighbour_at in
    let less = c.loop-offset-test.true in
    elim c.match-neighbour_at.branch [
      | in-Some w ↦ rw (w.met-is, w.total-is) (around_more c.args.reach.size c.args.cell at.offset-index less (ap option_to_list (sym w.in-Some.is) ∙ to) at.invariant w.add_once-total.ensures)
      | in_default w ↦ rw (w.met-is, w.total-is) (around_more c.args.reach.size c.args.cell at.offset-index less (ap option_to_list (sym w.in_default.is) ∙ to) at.invariant adjoins_none)
    ]
