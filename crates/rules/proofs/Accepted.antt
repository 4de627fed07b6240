-- What is known of the inputs of a call that no test refuses. Assumes nothing.
use mathlib.Core.Bool.{false, not}
use mathlib.Core.List.{List}
use mathlib.Core.Path.{◌≡◌}
use Prim.Native.Nat.{ℕ}
use borrow.Author.Tests.{not-false}
use lib.Dec.{T}
use lib.Ieee.{Float, is_nan, le}
use Rattle.binary32.specs.Numbers.{plus_zero}
use Rattle.fifo.proofs.Lists.{holds}
use Rattle.rules.specs.Sizes.{Size, Grid, Spacing, Lent, passes, in_bounds, out_of_bounds, any, first_that_holds, shape, below_zero}
use Rattle.rules.specs.Distances.{refusals_1, refusals_3}
use Rattle.rules.specs.Values.{refusals_5, refusals_6}
use Rattle.rules.specs.Sums.{refusals_7, refusals_8}
use Rattle.rules.proofs.Tests.{neither}
use Rattle.rules.proofs.Refusals.{Tests, not_held, shape_not_held}

-- After the tests of the shape the first grid is in bounds, so are the others, and the search's own tests are left.
after_shape :
    (size : Size) (others : List Size) (inputs : List ℕ) (lent : Lent) (more : Tests) → first_that_holds (shape size others inputs lent more) ≡ passes
    → T (in_bounds size) × (any out_of_bounds others ≡ false) × (first_that_holds more ≡ passes)
unfolding any
after_shape size others inputs lent more e =
    let (bounds, sizes, lengths, e) = shape_not_held size others inputs lent more e in
    let (first, rest) = neither (not (in_bounds size)) (any out_of_bounds others) bounds in
    (holds (not-false (in_bounds size) first), rest, e)

-- ---- each search: its limit is no NaN, its budget is above 0, and no time is below 0; the grids of 7 and 8 are in bounds

pub accepted_1 : (targets : Grid ℕ) (spacing : Spacing) (lent : Lent) → refusals_1 targets spacing lent ≡ passes → is_nan spacing.limit ≡ false
unfolding refusals_1
accepted_1 targets spacing lent e =
    let (bounds, others, e) = after_shape _ _ _ _ _ e in
    let (cell_size, e) = not_held _ _ e in
    (not_held _ _ e).0

pub accepted_3 :
    (targets : Grid ℕ) (times : Grid Float) (cap : Float) (lent : Lent) → refusals_3 targets times cap lent ≡ passes
    → (is_nan cap ≡ false) × (any below_zero times.cells ≡ false)
unfolding refusals_3
accepted_3 targets times cap lent e =
    let (bounds, others, e) = after_shape _ _ _ _ _ e in
    let (limit, e) = not_held _ _ e in
    (limit, (not_held _ _ e).0)

pub accepted_5 :
    (targets : Grid ℕ) (times values : Grid Float) (lent : Lent) → refusals_5 targets times values lent ≡ passes
    → any below_zero times.cells ≡ false
unfolding refusals_5
accepted_5 targets times values lent e =
    let (bounds, others, e) = after_shape _ _ _ _ _ e in
    (not_held _ _ e).0

pub accepted_6 :
    (targets : Grid ℕ) (times values : Grid Float) (limit : Float) (lent : Lent) → refusals_6 targets times values limit lent ≡ passes
    → (is_nan limit ≡ false) × (any below_zero times.cells ≡ false)
unfolding refusals_6
accepted_6 targets times values limit lent e =
    let (bounds, others, e) = after_shape _ _ _ _ _ e in
    let (number, e) = not_held _ _ e in
    (number, (not_held _ _ e).0)

-- Of 7 both the mask and the times are in bounds.
pub accepted_7 :
    (mask : Grid ℕ) (times values : Grid Float) (budget : Float) (lent : Lent) → refusals_7 mask times values budget lent ≡ passes
    → T (in_bounds mask.size) × T (in_bounds times.size) × (is_nan budget ≡ false) × (le budget plus_zero ≡ false) × (any below_zero times.cells ≡ false)
unfolding refusals_7 any
accepted_7 mask times values budget lent e =
    let (bounds, others, e) = after_shape _ _ _ _ _ e in
    let (bad, e) = not_held _ _ e in
    let (number, above) = neither (is_nan budget) (le budget plus_zero) bad in
    (bounds, holds (not-false (in_bounds times.size) (neither _ _ others).0), number, above, (not_held _ _ e).0)

pub accepted_8 :
    (times amounts : Grid Float) (budget : Float) (lent : Lent) → refusals_8 times amounts budget lent ≡ passes
    → T (in_bounds times.size) × (is_nan budget ≡ false) × (le budget plus_zero ≡ false) × (any below_zero times.cells ≡ false)
unfolding refusals_8
accepted_8 times amounts budget lent e =
    let (bounds, others, e) = after_shape _ _ _ _ _ e in
    let (bad, e) = not_held _ _ e in
    let (number, above) = neither (is_nan budget) (le budget plus_zero) bad in
    (bounds, number, above, (not_held _ _ e).0)
