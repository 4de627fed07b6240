-- `grids::answer_request` meets its contract: the arrays hold every grid of a request, and what is cut off their fronts are the file's grids. Assumes nothing.
use mathlib.Core.Path.{sym}
use native.Mathlib.Omega.{arith}
use lib.Seq.{length-take-le}
use Rattle.gridfile.proofs.Requests.{Usable, usable}
use Rattle.answer.proofs.Fetching.{fetched_bytes, fetched_floats}
use Rattle.answer.proofs.Sending.{on_grids}
use Rattle.answer.proofs.grids.answer_request.Goals as goal
use Rattle.answer.proofs.grids.answer_request.Goals.{Start}

-- What may be relied on in the request.
known : (c : Start) → Usable c.args.input.now c.args.request
known c = usable c.args.input.now c.args.request c.requires.asked

pub copy_bytes-requires : goal.copy_bytes-requires
copy_bytes-requires c = let u = (known (goal.at.copy_bytes-requires c).Start).targets in record { inside = u.inside; room = let small = u.small in omega arith }

pub copy_bytes-requires-2 : goal.copy_bytes-requires-2
copy_bytes-requires-2 c = let u = (known (goal.at.copy_bytes-requires-2 c).Start).obstacles in record { inside = u.inside; room = let small = u.small in omega arith }

pub read_floats-requires : goal.read_floats-requires
read_floats-requires c = let u = (known (goal.at.read_floats-requires c).Start).times.bytes in record { inside = u.inside; room = let small = u.small in omega arith }

pub read_floats-requires-2 : goal.read_floats-requires-2
read_floats-requires-2 c = let u = (known (goal.at.read_floats-requires-2 c).Start).values.bytes in record { inside = u.inside; room = let small = u.small in omega arith }

pub slice_bounds-targets-end : goal.slice_bounds-targets-end
slice_bounds-targets-end c = let small = (known (goal.at.slice_bounds-targets-end c).Start).targets.small in omega arith

pub slice_bounds-search-end : goal.slice_bounds-search-end
slice_bounds-search-end c = sym (length-take-le _ _ (let small = (known (goal.at.slice_bounds-search-end c).Start).targets.small in omega arith))

pub slice_bounds-obstacles-end : goal.slice_bounds-obstacles-end
slice_bounds-obstacles-end c = let small = (known (goal.at.slice_bounds-obstacles-end c).Start).obstacles.small in omega arith

pub slice_bounds-search-end-2 : goal.slice_bounds-search-end-2
slice_bounds-search-end-2 c = sym (length-take-le _ _ (let small = (known (goal.at.slice_bounds-search-end-2 c).Start).obstacles.small in omega arith))

pub slice_bounds-times-end : goal.slice_bounds-times-end
slice_bounds-times-end c = let small = (known (goal.at.slice_bounds-times-end c).Start).times.bytes.small in omega arith

pub slice_bounds-search-end-3 : goal.slice_bounds-search-end-3
slice_bounds-search-end-3 c = sym (length-take-le _ _ (let small = (known (goal.at.slice_bounds-search-end-3 c).Start).times.bytes.small in omega arith))

pub slice_bounds-values-end : goal.slice_bounds-values-end
slice_bounds-values-end c = let small = (known (goal.at.slice_bounds-values-end c).Start).values.bytes.small in omega arith

pub slice_bounds-search-end-4 : goal.slice_bounds-search-end-4
slice_bounds-search-end-4 c = sym (length-take-le _ _ (let small = (known (goal.at.slice_bounds-search-end-4 c).Start).values.bytes.small in omega arith))

pub search-requires : goal.search-requires
search-requires c = let u = known (goal.at.search-requires c).Start in record { small = record { sides = record { rows_natural = u.rows_natural; cols_natural = u.cols_natural }; few = u.few }; room = c.requires.room }

pub returns : goal.returns
returns c =
    let input = c.args.input.now in
    let u = known (goal.at.returns c).Start in
    on_grids input c.args.request
    (fetched_bytes input _ _ _ u.targets.inside c.copy_bytes.ensures)
    (fetched_bytes input _ _ _ u.obstacles.inside c.copy_bytes-2.ensures)
    (fetched_floats input _ _ _ c.read_floats.ensures)
    (fetched_floats input _ _ _ c.read_floats-2.ensures)
    c.search.ensures
