-- `grids::find_grids` meets its contract: each step of the code is one of `Steps`. Assumes nothing.
use mathlib.Core.Path.{sym, ◌∙◌}
use Prim.Native.Nat.{ℕ}
use native.Mathlib.Omega.{arith}
use Rattle.gridfile.specs.Fields.{Part}
use Rattle.gridfile.specs.Request.{Grids, search_number}
use Rattle.std.proofs.Common.{Option}
use Rattle.gridfile.proofs.Steps.{Reached, steps, then_05, then_06, then_07, at_end, all_of, begin, on, breach, bytes_after, all_found}
use Rattle.gridfile.proofs.grids.find_grids.Goals as goal
use Rattle.gridfile.proofs.grids.find_grids.Goals.{After-grids-has, In_ok-targets, In_ok-obstacles, In_ok-times, In_ok-values}

-- The rests, from where each grid is known.
abbrev Reached04 : After-grids-has → Type 0
Reached04 c = Reached c.args.file.now (search_number c.args.search) c.args.at (steps c.args.file.now c.grids-has.result) c.args.at

abbrev Reached05 : In_ok-targets → Type 0
Reached05 c =
    Reached c.args.file.now (search_number c.args.search) c.args.at (then_05 c.args.file.now c.grids-has.result c.in_ok-targets.targets) c.in_ok-targets.at

abbrev Reached06 : In_ok-obstacles → Type 0
Reached06 c =
    Reached c.args.file.now (search_number c.args.search) c.args.at (then_06 c.args.file.now c.grids-has.result c.in_ok-targets.targets c.in_ok-obstacles.obstacles) c.in_ok-obstacles.at

abbrev Reached07 : In_ok-times → Type 0
Reached07 c =
    Reached c.args.file.now (search_number c.args.search) c.args.at (then_07 c.args.file.now c.grids-has.result c.in_ok-targets.targets c.in_ok-obstacles.obstacles c.in_ok-times.times)
    c.in_ok-times.at

abbrev ReachedEnd : In_ok-values → Type 0
ReachedEnd c =
    Reached c.args.file.now (search_number c.args.search) c.args.at
    (at_end c.args.file.now (all_of c.in_ok-targets.targets c.in_ok-obstacles.obstacles c.in_ok-times.times c.in_ok-values.values))
    c.in_ok-values.end

at_04 : (c : After-grids-has) → Reached04 c
at_04 c = begin c.grids-has.result c.requires c.grids-has.ensures

at_05 : (c : In_ok-targets) → Reached05 c
at_05 c =
    let file = c.args.file.now in
    let has = c.grids-has.result in
    on has.targets 0x04 (then_05 file has) (begin has c.requires c.grids-has.ensures) (sym c.next_grid.ensures ∙ c.in_ok-targets.was)

at_06 : (c : In_ok-obstacles) → Reached c.args.file.now (search_number c.args.search) c.args.at (then_05 c.args.file.now c.grids-has.result c.in_ok-targets.targets) c.in_ok-targets.at → Reached06 c
at_06 c here =
    let has = c.grids-has.result in
    on has.obstacles 0x05 (then_06 c.args.file.now has c.in_ok-targets.targets) here (sym c.next_grid-2.ensures ∙ c.in_ok-obstacles.was)

at_07 :
    (c : In_ok-times)
    → Reached c.args.file.now (search_number c.args.search) c.args.at (then_06 c.args.file.now c.grids-has.result c.in_ok-targets.targets c.in_ok-obstacles.obstacles) c.in_ok-obstacles.at
    → Reached07 c
at_07 c here =
    let has = c.grids-has.result in
    on has.times 0x06 (then_07 c.args.file.now has c.in_ok-targets.targets c.in_ok-obstacles.obstacles) here (sym c.next_grid-3.ensures ∙ c.in_ok-times.was)

at_the_end :
    (c : In_ok-values)
    → Reached c.args.file.now (search_number c.args.search) c.args.at (then_07 c.args.file.now c.grids-has.result c.in_ok-targets.targets c.in_ok-obstacles.obstacles c.in_ok-times.times) c.in_ok-times.at
    → ReachedEnd c
at_the_end c here =
    let rest : Part → ℕ → Option Grids = λ v. at_end c.args.file.now (all_of c.in_ok-targets.targets c.in_ok-obstacles.obstacles c.in_ok-times.times v) in
    on c.grids-has.result.values 0x07 rest here (sym c.next_grid-4.ensures ∙ c.in_ok-values.was)

pub next_grid-requires-2 : goal.next_grid-requires-2
next_grid-requires-2 c = (at_05 (goal.at.next_grid-requires-2 c).In_ok-targets).within

pub next_grid-requires-3 : goal.next_grid-requires-3
next_grid-requires-3 c = let at = goal.at.next_grid-requires-3 c in (at_06 at.In_ok-obstacles (at_05 at.In_ok-targets)).within

pub next_grid-requires-4 : goal.next_grid-requires-4
next_grid-requires-4 c =
    let at = goal.at.next_grid-requires-4 c in (at_07 at.In_ok-times (at_06 at.In_ok-obstacles (at_05 at.In_ok-targets))).within

pub returns-in_err-targets : goal.returns-in_err-targets
returns-in_err-targets c =
    let has = c.grids-has.result in
    c.from_residual.ensures ∙ sym (breach has.targets 0x04 (then_05 c.args.file.now has) (at_04 (goal.at.returns-in_err-targets c).After-grids-has) (sym c.next_grid.ensures ∙ c.in_err-targets.was))

pub returns-in_err-obstacles : goal.returns-in_err-obstacles
returns-in_err-obstacles c =
    let has = c.grids-has.result in
    c.from_residual-in_err-obstacles.ensures ∙ sym (breach has.obstacles 0x05 (then_06 c.args.file.now has c.in_ok-targets.targets) (at_05 (goal.at.returns-in_err-obstacles c).In_ok-targets) (sym c.next_grid-2.ensures ∙ c.in_err-obstacles.was))

pub returns-in_err-times : goal.returns-in_err-times
returns-in_err-times c =
    let at = goal.at.returns-in_err-times c in
    let has = c.grids-has.result in
    c.from_residual-in_err-times.ensures ∙ sym (breach has.times 0x06 (then_07 c.args.file.now has c.in_ok-targets.targets c.in_ok-obstacles.obstacles) (at_06 at.In_ok-obstacles (at_05 at.In_ok-targets)) (sym c.next_grid-3.ensures ∙ c.in_err-times.was))

pub returns-in_err-values : goal.returns-in_err-values
returns-in_err-values c =
    let at = goal.at.returns-in_err-values c in
    let rest : Part → ℕ → Option Grids = λ v. at_end c.args.file.now (all_of c.in_ok-targets.targets c.in_ok-obstacles.obstacles c.in_ok-times.times v) in
    c.from_residual-in_err-values.ensures ∙ sym (breach c.grids-has.result.values 0x07 rest (at_07 at.In_ok-times (at_06 at.In_ok-obstacles (at_05 at.In_ok-targets))) (sym c.next_grid-4.ensures ∙ c.in_err-values.was))

pub returns-then-end-file : goal.returns-then-end-file
returns-then-end-file c =
    let at = goal.at.returns-then-end-file c in
    let here = at_the_end at.In_ok-values (at_07 at.In_ok-times (at_06 at.In_ok-obstacles (at_05 at.In_ok-targets))) in
    sym (bytes_after (all_of c.in_ok-targets.targets c.in_ok-obstacles.obstacles c.in_ok-times.times c.in_ok-values.values) here (λ e. omega arith))

pub returns : goal.returns
returns c =
    let at = goal.at.returns c in
    let here = at_the_end at.In_ok-values (at_07 at.In_ok-times (at_06 at.In_ok-obstacles (at_05 at.In_ok-targets))) in
    sym (all_found (all_of c.in_ok-targets.targets c.in_ok-obstacles.obstacles c.in_ok-times.times c.in_ok-values.values) here (omega arith))
