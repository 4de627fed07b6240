-- What going to one neighbour, `neighbour_at`, and storing some are asked and promise. Definitions only.
use Rattle.std.specs.Prelude.{◌≡◌, List, [], ◌∷◌, ℕ, ◌+◌, ◌≤◌, T, ℤ, pos, negsuc, length, get_or, Option, option_to_list}
use Rattle.std.proofs.lemmas.List.Edits.{sets}
use Rattle.rules.specs.declared.Size.{Size}
use Rattle.rules.specs.Sizes.{in_bounds}
use Rattle.rules.specs.Cells.{within, neighbour, neighbours}
use Rattle.cells.specs.Neighbours.{Neighbours, Place, place_of}

-- The size is within the bounds, and the row and the column are between the grid's edges.
pub record InGrid (size : Size) (place : Place) : Type 0 where
  pub bounds : T (in_bounds size)
  pub row_in : T (within size.rows place.row)
  pub col_in : T (within size.cols place.col)

-- An offset's part for rows, and for columns. One that is not there stays.
abbrev pub row_part : List ℤ → ℤ
row_part offset = get_or offset 0 (pos 0)

abbrev pub col_part : List ℤ → ℤ
col_part offset = get_or offset 1 (pos 0)

-- An offset's part for rows, or for columns: stay, go on, or go back.
pub data Step : ℤ → Type 0 where
  stay : Step (pos 0)
  on : Step (pos 1)
  back : Step (negsuc 0)

-- What going to a neighbour starts from: a place in the grid, and an offset.
pub record Stepping (size : Size) (place : Place) (offset : List ℤ) : Type 0 where
  pub stands : InGrid size place
  pub row_step : Step (row_part offset)
  pub col_step : Step (col_part offset)

-- From the cell at that place the offset leads to the neighbour that is told, if any.
pub record Leads (size : Size) (place : Place) (offset : List ℤ) (there : Option ℕ) : Type 0 where
  pub leads : (u : ℕ) → place ≡ place_of size u → option_to_list there ≡ neighbour size u offset

-- Each offset of a table is a step for rows and one for columns.
pub data AllSteps : List (List ℤ) → Type 0 where
  none : AllSteps []
  more : {down across : ℤ} {table : List (List ℤ)} → Step down → Step across → AllSteps table → AllSteps ((down ∷ across ∷ []) ∷ table)

-- What storing neighbours starts from: a place in the grid, steps, and a free entry for each.
pub record Storing (size : Size) (place : Place) (offsets : List (List ℤ)) (near : Neighbours) : Type 0 where
  pub stands : InGrid size place
  pub steps : AllSteps offsets
  pub free : near.count + length offsets ≤ 8

-- Of the cell at that place, the neighbours at these offsets are stored behind those that were found, and counted.
pub record Stored (size : Size) (place : Place) (offsets : List (List ℤ)) (before after : Neighbours) : Type 0 where
  pub stored : (u : ℕ) → place ≡ place_of size u → after.cells ≡ sets before.cells before.count (neighbours size u offsets)
  pub counted : (u : ℕ) → place ≡ place_of size u → after.count ≡ before.count + length (neighbours size u offsets)
  pub straight_stays : after.straight ≡ before.straight
