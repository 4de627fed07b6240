-- Rows and columns, signed as the code has them, against the grid's edges: a step of at most one fits, and what is between the edges is a
-- natural number, whose index is below the number of cells. Assumes nothing.
use mathlib.Core.Path.{◌≡◌, refl, ap, ◌∙◌}
use mathlib.Core.Bool.{Bool, true, false, cond}
use mathlib.Core.List.{List, []}
use Prim.Native.Nat.{ℕ, zero, suc, ◌+◌, ◌-◌, ◌*◌, ◌/◌, ◌≤◌, ◌<◌}
use native.Mathlib.Nat.{lt_of_lt_of_le, mul-zero, mod-lt, div-lt_iff_lt-mul, div-add-mod'}
use native.Mathlib.Omega.{arith}
use lib.Arith.{digits_lt}
use lib.Dec.{T, leb, ltb, lt→ltb, le→leb}
use lib.IntN.{ℤ, pos, negsuc, nat_abs, ◌+ℤ◌, ◌*ℤ◌}
use lib.ListN.{get_or}
use lib.Signed.{mag, le_z, lt_z, non_neg}
use mir.Syntax.{w32}
use mir.Val.{Fits, SFits, to_z}
use mir.Facts.{to_z-of_z, yes_and}
use Rattle.rules.specs.declared.Size.{Size}
use Rattle.rules.specs.Sizes.{cells_max, count}
use Rattle.rules.specs.Cells.{offsets, index, row_of, col_of, within}
use Rattle.cells.specs.Neighbours.{CellOf, Place, place_of}
use Rattle.cells.specs.Storing.{Step, stay, on, back, row_part, col_part, AllSteps, none, more}
use Rattle.rules.proofs.Neighbours.{within_below}
use Rattle.rules.proofs.Tests.{and_then, and_not}
use Rattle.cells.proofs.Bounds.{Side, Bounded, bounded, read, side_read, side_same, cast_is, product_fits, product_read}

-- ---- between the edges

-- k is 0 to end - 1.
pub record Inside (end k : ℤ) : Type 0 where
  pub is_mag : k ≡ pos (mag k)
  pub less : mag k < mag end

pub inside : (end k : ℤ) → T (within end k) → Inside end k
inside end (pos n) between = record { is_mag = refl; less = within_below end (pos n) between }
inside end (negsuc n) between = absurd between

-- A natural number below a side is between the edges.
pub between : {end : ℤ} (n : ℕ) → Side end → n < mag end → T (within end (pos n))
between {end} n end_side less = rw end_side.is_mag (yes_and (leb 0 n) (ltb n (mag end)) (le→leb 0 n (omega arith)) (lt→ltb n (mag end) less))

-- What is between the edges is small enough to be a side itself.
pub inside_is_side : {end k : ℤ} → Side end → Inside end k → Side k
inside_is_side {end} {k} end_side k_in = let most = end_side.most in let less = k_in.less in record { is_mag = k_in.is_mag; most = omega arith }

-- The test of the code.
module _ {end k : ℤ} (end_fits : SFits w32 end) (k_fits : SFits w32 k) where
  pub inside_both : le_z (pos 0) (read k) ≡ true → lt_z (read k) (read end) ≡ within end k
  inside_both first = rw (to_z-of_z k_fits, to_z-of_z end_fits) (and_then (le_z (pos 0) k) (lt_z k end) (rw (to_z-of_z k_fits) at first))

  pub inside_first : le_z (pos 0) (read k) ≡ false → le_z (pos 0) (read k) ≡ within end k
  inside_first first = rw (to_z-of_z k_fits) (and_not (le_z (pos 0) k) (lt_z k end) (rw (to_z-of_z k_fits) at first))

-- ---- the steps of a table

-- Then so is the i-th. Past the table both parts stay.
pub step_at : {table : List (List ℤ)} → AllSteps table → (i : ℕ) → Step (row_part (get_or table i [])) × Step (col_part (get_or table i []))
step_at none i = (stay, stay)
step_at (more down across rest) zero = (down, across)
step_at (more down across rest) (suc i) = step_at rest i

-- The offsets of the rules are steps.
pub steps : AllSteps offsets
steps = search (none, more, stay, on, back) depth 9

pub step_read : {d : ℤ} → Step d → read d ≡ d
step_read stay = refl
step_read on = refl
step_read back = refl

mag_back : (n : ℕ) → mag (pos n +ℤ negsuc 0) ≤ n + 1
mag_back n = go (ltb n 1)
  where
    go : (t : Bool) → mag (cond t (negsuc (1 - suc n)) (pos (n - 1))) ≤ n + 1
    go true = omega arith
    go false = omega arith

step_small : (n : ℕ) {d : ℤ} → Step d → mag (pos n +ℤ d) ≤ n + 1
step_small n stay = omega arith
step_small n on = omega arith
step_small n back = mag_back n

-- One step from a row, or a column, of the grid fits, and is read back as it is.
module _ {k d : ℤ} (k_side : Side k) (step : Step d) where
  moved : read k +ℤ read d ≡ k +ℤ d
  moved = rw (side_read k_side, step_read step, ← k_side.is_mag)

  moved_fits : SFits w32 (k +ℤ d)
  moved_fits = let most = k_side.most in rw k_side.is_mag (record { sfits = let small = step_small (mag k) step in omega arith })

module _ {end k d : ℤ} (end_side : Side end) (k_in : Inside end k) (step : Step d) where
  pub step_fits : SFits w32 (read k +ℤ read d)
  step_fits = rw (moved (inside_is_side end_side k_in) step) (moved_fits (inside_is_side end_side k_in) step)

  pub stepped : read (read k +ℤ read d) ≡ k +ℤ d
  stepped = to_z-of_z step_fits ∙ moved (inside_is_side end_side k_in) step

-- ---- the index

-- A row and a column between the edges have an index below the number of cells.
pub index_below : (size : Size) (row col : ℕ) → row < mag size.rows → col < mag size.cols → index size row col < count size
index_below size row col row_less col_less = digits_lt row_less col_less

module _ (size : Size) (bounds : Bounded size) {row col : ℤ} (row_in : Inside size.rows row) (col_in : Inside size.cols col) where
  index_small : index size (mag row) (mag col) < cells_max
  index_small = lt_of_lt_of_le (index_below size (mag row) (mag col) row_in.less col_in.less) bounds.cells_most

  row_side : Side row
  row_side = inside_is_side bounds.rows_side row_in

  col_side : Side col
  col_side = inside_is_side bounds.cols_side col_in

  pub row_product_fits : SFits w32 (read row *ℤ read size.cols)
  row_product_fits = product_fits row_side bounds.cols_side

  index_sum : read (read row *ℤ read size.cols) +ℤ read col ≡ pos (index size (mag row) (mag col))
  index_sum = rw (product_read row_side bounds.cols_side, side_read col_side)

  pub index_sum_fits : SFits w32 (read (read row *ℤ read size.cols) +ℤ read col)
  index_sum_fits = rw index_sum (record { sfits = let bound = index_small in omega arith })

  index_read : read (read (read row *ℤ read size.cols) +ℤ read col) ≡ pos (index size (mag row) (mag col))
  index_read = to_z-of_z index_sum_fits ∙ index_sum

  pub index_cast :
      T (non_neg (read (read (read row *ℤ read size.cols) +ℤ read col)))
      × Fits w32 (nat_abs (read (read (read row *ℤ read size.cols) +ℤ read col)))
  index_cast = rw index_read (tt, record { fits = let bound = index_small in omega arith })

  pub index_is : nat_abs (read (read (read row *ℤ read size.cols) +ℤ read col)) ≡ index size (mag row) (mag col)
  index_is = ap nat_abs index_read

-- ---- a cell's row and column

module _ (size : Size) (bounds : Bounded size) (u : ℕ) (below : u < count size) where
  cols_some : 0 < mag size.cols
  cols_some = go (mag size.cols) below
    where
      go : (n : ℕ) → u < mag size.rows * n → 0 < n
      go zero h = let none : u < 0 = rw (← mul-zero (mag size.rows)) h in omega arith
      go (suc n) h = omega arith

  pub row_less : row_of size u < mag size.rows
  row_less = (div-lt_iff_lt-mul cols_some).1 below

  pub col_less : col_of size u < mag size.cols
  col_less = mod-lt u cols_some

  pub row_between : T (within size.rows (pos (row_of size u)))
  row_between = between (row_of size u) bounds.rows_side row_less

  pub col_between : T (within size.cols (pos (col_of size u)))
  col_between = between (col_of size u) bounds.cols_side col_less

  -- The two as the code has them, by the columns without their sign.
  pub cols_cast_some : 0 < nat_abs (read size.cols)
  cols_cast_some = rw (cast_is bounds.cols_side) cols_some

  pub row_cast_fits : SFits w32 (pos (u / nat_abs (read size.cols)))
  row_cast_fits = rw (cast_is bounds.cols_side) (record { sfits = let most = bounds.rows_side.most in let less = row_less in omega arith })

  -- The column is what the rows above leave of the index.
  pub rows_above_most : u / nat_abs (read size.cols) * nat_abs (read size.cols) ≤ u
  rows_above_most = let whole = div-add-mod' u (nat_abs (read size.cols)) in omega arith

  rest_is : u - u / nat_abs (read size.cols) * nat_abs (read size.cols) ≡ col_of size u
  rest_is = rw (cast_is bounds.cols_side) (let whole = div-add-mod' u (mag size.cols) in omega arith)

  pub col_cast_fits : SFits w32 (pos (u - u / nat_abs (read size.cols) * nat_abs (read size.cols)))
  col_cast_fits = rw rest_is (record { sfits = let most = bounds.cols_side.most in let less = col_less in omega arith })

  pub row_cast : to_z w32 (u / nat_abs (read size.cols)) ≡ pos (row_of size u)
  row_cast = to_z-of_z row_cast_fits ∙ rw (cast_is bounds.cols_side)

  pub col_cast : to_z w32 (u - u / nat_abs (read size.cols) * nat_abs (read size.cols)) ≡ pos (col_of size u)
  col_cast = to_z-of_z col_cast_fits ∙ ap pos rest_is

module _ (size : Size) (u : ℕ) (cell : CellOf size u) where
  cell_bounds : Bounded size
  cell_bounds = bounded size cell.bounds

  pub placed : (row col : ℤ) → row ≡ pos (row_of size u) → col ≡ pos (col_of size u) → (let place : Place = record { row = row; col = col } in place) ≡ place_of size u
  placed row col row_is col_is = rw (row_is, col_is)

  -- The two are read back from the struct as they are.
  module _ {place : Place} (is : place ≡ place_of size u) where
    pub place_row : read place.row ≡ pos (row_of size u)
    place_row = rw is (side_same (inside_is_side cell_bounds.rows_side (inside size.rows (pos (row_of size u)) (row_between size cell_bounds u cell.below))))

    pub place_col : read place.col ≡ pos (col_of size u)
    place_col = rw is (side_same (inside_is_side cell_bounds.cols_side (inside size.cols (pos (col_of size u)) (col_between size cell_bounds u cell.below))))
