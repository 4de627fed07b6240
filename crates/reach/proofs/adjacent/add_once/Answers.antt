-- `adjacent::add_once` meets its contract. Assumes nothing.
use mathlib.Core.Logic.{inl}
use mathlib.Core.Path.{refl, sym, ◌∙◌}
use native.Mathlib.Omega.{arith}
use Prim.Native.Nat.{◌<◌}
use borrow.Author.Tests.{eq-eqb, ne_eqb, not-true, not-false}
use lib.ListN.{length}
use Rattle.reach.proofs.Adjoining.{met_before, within_budget, added_new}
use Rattle.reach.proofs.adjacent.add_once.Goals as goal
use Rattle.reach.proofs.adjacent.add_once.Goals.{Start}

inside : (s : Start) → s.args.cell < length s.args.met.now
inside s = s.requires.inside s.args.cell (inl refl)

pub bounds-met-at : goal.bounds-met-at
bounds-met-at c = inside (goal.at.bounds-met-at c).Start

pub returns-then-met-at-ne0 : goal.returns-then-met-at-ne0
returns-then-met-at-ne0 c = met_before c.args.reach.values.now c.args.reach.distances.now c.args.reach.budget c.args.sum (inside (goal.at.returns-then-met-at-ne0 c).Start) (ne_eqb _ _ c.if-met-at-ne0.true)

pub is_above-requires : goal.is_above-requires
is_above-requires c = let here = inside (goal.at.is_above-requires c).Start in let long = c.requires.distances_long in omega arith

pub returns-then-not-is_above : goal.returns-then-not-is_above
returns-then-not-is_above c =
    within_budget c.args.reach.values.now c.args.reach.distances.now c.args.reach.budget c.args.sum (inside (goal.at.returns-then-not-is_above c).Start)
    (sym c.is_above.ensures ∙ not-true c.is_above.result c.if-not-is_above.true-raw)

pub bounds-met-at-2 : goal.bounds-met-at-2
bounds-met-at-2 c = inside (goal.at.bounds-met-at-2 c).Start

pub add_value-requires : goal.add_value-requires
add_value-requires c = let here = inside (goal.at.add_value-requires c).Start in let long = c.requires.values_long in omega arith

pub returns : goal.returns
returns c =
    added_new c.args.reach.values.now c.args.reach.distances.now c.args.reach.budget c.args.sum (inside (goal.at.returns c).Start) (eq-eqb _ _ c.if-met-at-ne0.false)
    (sym c.is_above.ensures ∙ not-false c.is_above.result c.if-not-is_above.false-raw) c.add_value.ensures
