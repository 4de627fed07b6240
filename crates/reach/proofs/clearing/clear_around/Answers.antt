-- `clearing::clear_around` meets its contract: before each turn the neighbours at the offsets that were passed are put back. Assumes nothing.
use mathlib.Core.List.{[]}
use mathlib.Core.Logic.{inl}
use mathlib.Core.Path.{◌≡◌, refl, sym, ap, ◌∙◌}
use lib.ListN.{take, get_or}
use Rattle.std.specs.Prelude.{option_to_list}
use Rattle.cells.specs.Neighbours.{CellOf}
use Rattle.cells.proofs.Storing.{stepping}
use Rattle.rules.specs.Cells.{neighbour, neighbours}
use Rattle.rules.specs.Sums.{adjacent_offsets}
use Rattle.rules.proofs.Neighbours.{neighbour_inside}
use Rattle.reach.proofs.Around.{steps}
use Rattle.reach.proofs.PutBack.{put_back_none, put_back_one, still_long, around_none_back, around_back}
use Rattle.reach.proofs.clearing.clear_around.Goals as goal
use Rattle.reach.proofs.clearing.clear_around.Goals.{Start, After-neighbour_at, in-Some, in_default}

cell_of : (c : Start) → CellOf c.args.size c.args.cell
cell_of c = record { bounds = c.requires.bounds; below = c.requires.inside }

-- The offset of this turn leads to the neighbour of the rules.
led :
    (c : After-neighbour_at)
    → let a = c.args in
    option_to_list c.neighbour_at.result ≡ neighbour a.size a.cell (get_or adjacent_offsets c.loop-offset.offset-index [])
led c = c.neighbour_at.ensures.leads c.args.cell c.place_of-place.ensures

pub loop-offset-init : goal.loop-offset-init
loop-offset-init c = around_none_back c.args.size c.args.met.now c.args.cell

pub neighbour_at-requires : goal.neighbour_at-requires
neighbour_at-requires c = stepping (cell_of (goal.at.neighbour_at-requires c).Start) c.place_of-place.ensures steps c.loop-offset.offset-index

pub bounds-met-at : goal.bounds-met-at
bounds-met-at c =
    let a = c.args in
    let at = c.loop-offset in
    let here = ap option_to_list (sym c.in-Some.is) ∙ led (goal.at.bounds-met-at c).After-neighbour_at in
    rw (still_long 0 a.met.now (neighbours a.size a.cell (take at.offset-index adjacent_offsets)) at.invariant ∙ c.requires.met_long)
    (neighbour_inside a.size a.cell (get_or adjacent_offsets at.offset-index []) c.in-Some.beside (rw (← here) (inl refl)))

pub loop-offset-preserved : goal.loop-offset-preserved
loop-offset-preserved c =
    let a = c.args in
    let at = c.loop-offset in
    let to = led (goal.at.loop-offset-preserved c).After-neighbour_at in
    let less = c.loop-offset-test.true in
    elim c.match-neighbour_at.branch [
      | in-Some w ↦ rw w.met-is (around_back a.size a.met.now a.cell at.offset-index less (ap option_to_list (sym w.in-Some.is) ∙ to) at.invariant (sym (put_back_one 0 at.met w.in-Some.beside)))
      | in_default w ↦ rw w.met-is (around_back a.size a.met.now a.cell at.offset-index less (ap option_to_list (sym w.in_default.is) ∙ to) at.invariant (sym (put_back_none 0 at.met)))
    ]
