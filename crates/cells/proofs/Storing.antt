-- One neighbour: the place at an offset is tested against both edges, and what is in the grid is stored and counted. Assumes nothing.
use mathlib.Core.Path.{◌≡◌, refl, sym, ap, ◌∙◌}
use mathlib.Core.Bool.{Bool, true, false, cond, ◌&&◌}
use mathlib.Core.List.{List, [], ◌∷◌, ◌++◌}
use Prim.Native.Nat.{ℕ, suc, ◌+◌, ◌<◌}
use native.Mathlib.Nat.{add-zero, add_assoc}
use native.Mathlib.Omega.{arith}
use lib.IntN.{ℤ, ◌+ℤ◌}
use lib.ListN.{length, get_or, set, take, length-append}
use lib.Seq.{sets}
use lib.Signed.{mag}
use mir.Syntax.{w32}
use mir.Val.{SFits}
use Rattle.std.specs.Prelude.{Option, Some, None, option_to_list}
use Rattle.rules.specs.declared.Size.{Size}
use Rattle.rules.specs.Cells.{index, within, neighbour, neighbours}
use Rattle.cells.specs.Neighbours.{Neighbours, CellOf, Place, place_of}
use Rattle.cells.specs.Storing.{InGrid, row_part, col_part, Stepping, Leads, AllSteps, Stored}
use Rattle.fifo.proofs.Lists.{holds}
use Rattle.cells.proofs.Bounds.{Bounded, bounded, read, side_same}
use Rattle.cells.proofs.Edges.{Inside, inside, row_between, col_between}
use Rattle.cells.proofs.Edges.{step_at, step_fits, stepped}
use Rattle.cells.proofs.NeighbourLists.{one_more}

-- ---- the place one step from a place in the grid

-- A row and a column, as a place.
abbrev pub at_place : ℤ → ℤ → Place
at_place row col = record { row = row; col = col }

module _ (size : Size) (place : Place) {offset : List ℤ} (from : Stepping size place offset) where
  bounds : Bounded size
  bounds = bounded size from.stands.bounds

  row_in : Inside size.rows place.row
  row_in = inside size.rows place.row from.stands.row_in

  col_in : Inside size.cols place.col
  col_in = inside size.cols place.col from.stands.col_in

  pub to_row_fits : SFits w32 (read place.row +ℤ read (row_part offset))
  to_row_fits = step_fits bounds.rows_side row_in from.row_step

  pub to_col_fits : SFits w32 (read place.col +ℤ read (col_part offset))
  to_col_fits = step_fits bounds.cols_side col_in from.col_step

  to_row : read (read place.row +ℤ read (row_part offset)) ≡ place.row +ℤ row_part offset
  to_row = stepped bounds.rows_side row_in from.row_step

  to_col : read (read place.col +ℤ read (col_part offset)) ≡ place.col +ℤ col_part offset
  to_col = stepped bounds.cols_side col_in from.col_step

  -- What the two tests answer, said of the place itself.
  pub row_tested :
      {answer tested : Bool} → answer ≡ within (read size.rows) (read (read place.row +ℤ read (row_part offset)))
      → answer ≡ tested → within size.rows (place.row +ℤ row_part offset) ≡ tested
  row_tested means e = rw (← to_row, ← side_same bounds.rows_side) (sym means ∙ e)

  pub col_tested :
      {answer tested : Bool} → answer ≡ within (read size.cols) (read (read place.col +ℤ read (col_part offset)))
      → answer ≡ tested → within size.cols (place.col +ℤ col_part offset) ≡ tested
  col_tested means e = rw (← to_col, ← side_same bounds.cols_side) (sym means ∙ e)

  pub stepped_in_grid :
      within size.rows (place.row +ℤ row_part offset) ≡ true → within size.cols (place.col +ℤ col_part offset) ≡ true
      → InGrid size (at_place (read (read place.row +ℤ read (row_part offset))) (read (read place.col +ℤ read (col_part offset))))
  stepped_in_grid row_here col_here = record { bounds = from.stands.bounds; row_in = rw to_row (holds row_here); col_in = rw to_col (holds col_here) }

  pub stepped_index :
      {cell : ℕ} → cell ≡ index size (mag (read (read place.row +ℤ read (row_part offset)))) (mag (read (read place.col +ℤ read (col_part offset))))
      → cell ≡ index size (mag (place.row +ℤ row_part offset)) (mag (place.col +ℤ col_part offset))
  stepped_index means = rw (← to_row, ← to_col) means

-- A cell's own row and column are in the grid.
pub cell_in_grid : (size : Size) (u : ℕ) → CellOf size u → {place : Place} → place ≡ place_of size u → InGrid size place
cell_in_grid size u cell is =
    let bounds = bounded size cell.bounds in
    rw is (record { bounds = cell.bounds; row_in = row_between size bounds u cell.below; col_in = col_between size bounds u cell.below })

-- From there each offset of a table of steps is one to go by.
pub stepping :
    {size : Size} {u : ℕ} → CellOf size u → {place : Place} → place ≡ place_of size u → {table : List (List ℤ)} → AllSteps table → (i : ℕ)
    → Stepping size place (get_or table i [])
stepping {size} {u} cell is steps i = let step = step_at steps i in record { stands = cell_in_grid size u cell is; row_step = step.0; col_step = step.1 }

-- ---- where a step leads

module _ (size : Size) (place : Place) (offset : List ℤ) where
  -- The neighbour at an offset, by the place of the cell.
  neighbour_at :
      (u : ℕ) → place ≡ place_of size u
      → neighbour size u offset
      ≡ cond (within size.rows (place.row +ℤ row_part offset) && within size.cols (place.col +ℤ col_part offset))
      (index size (mag (place.row +ℤ row_part offset)) (mag (place.col +ℤ col_part offset)) ∷ []) []
  unfolding neighbour
  neighbour_at u is = rw is refl

  leads_nowhere : (within size.rows (place.row +ℤ row_part offset) && within size.cols (place.col +ℤ col_part offset)) ≡ false → Leads size place offset None
  leads_nowhere outside = record { leads = λ u is. sym (neighbour_at u is ∙ rw outside refl) }

  -- Outside the grid there is no neighbour.
  pub row_outside : within size.rows (place.row +ℤ row_part offset) ≡ false → Leads size place offset None
  row_outside outside = leads_nowhere (rw outside)

  pub col_outside : within size.rows (place.row +ℤ row_part offset) ≡ true → within size.cols (place.col +ℤ col_part offset) ≡ false → Leads size place offset None
  col_outside row_here outside = leads_nowhere (rw (row_here, outside))

  -- In the grid there is one.
  pub leads_to :
      within size.rows (place.row +ℤ row_part offset) ≡ true → within size.cols (place.col +ℤ col_part offset) ≡ true
      → {cell : ℕ} → cell ≡ index size (mag (place.row +ℤ row_part offset)) (mag (place.col +ℤ col_part offset)) → Leads size place offset (Some cell)
  leads_to row_here col_here {cell} cell_is = record { leads = λ u is. sym (neighbour_at u is ∙ rw (row_here, col_here, cell_is) refl) }

-- ---- what is stored

-- One cell, or none, behind those that were found.
abbrev pub stored_there : Neighbours → Option ℕ → Neighbours
stored_there near there = record {
  cells = sets near.cells near.count (option_to_list there);
  straight = near.straight;
  count = near.count + length (option_to_list there);
}

-- Cells that are stored behind those that were stored.
sets_then : (vs l : List ℕ) (i : ℕ) (then : List ℕ) → sets (sets l i vs) (i + length vs) then ≡ sets l i (vs ++ then)
sets_then [] l i then = ap (λ k. sets l k then) (add-zero i)
sets_then (v ∷ vs) l i then =
    let later : i + length (v ∷ vs) ≡ suc i + length vs = omega arith in
    ap (λ k. sets (sets (set l i v) (suc i) vs) k then) later ∙ sets_then vs (set l i v) (suc i) then

module _ {size : Size} {place : Place} (offsets : List (List ℤ)) {before : Neighbours} where
  pub none_stored : Stored size place (take 0 offsets) before before
  unfolding neighbours
  none_stored = record { stored = λ u is. refl; counted = λ u is. sym (add-zero before.count); straight_stays = refl }

  -- One offset more.
  pub more_stored :
      {k : ℕ} {now : Neighbours} {there : Option ℕ} → k < length offsets → Leads size place (get_or offsets k []) there
      → Stored size place (take k offsets) before now → Stored size place (take (k + 1) offsets) before (stored_there now there)
  more_stored {k} {now} {there} less to so_far = record {
    stored = λ u is.
        let found = neighbours size u (take k offsets) in
        ap (λ l. sets l now.count (option_to_list there)) (so_far.stored u is)
        ∙ ap (λ n. sets (sets before.cells before.count found) n (option_to_list there)) (so_far.counted u is)
        ∙ sets_then found before.cells before.count (option_to_list there)
        ∙ ap (sets before.cells before.count) (behind u is);
    counted = λ u is.
        let found = neighbours size u (take k offsets) in
        ap (λ n. n + length (option_to_list there)) (so_far.counted u is)
        ∙ add_assoc before.count (length found) (length (option_to_list there))
        ∙ ap (λ n. before.count + n) (sym (length-append found (option_to_list there)) ∙ ap length (behind u is));
    straight_stays = so_far.straight_stays;
  }
    where
      behind : (u : ℕ) → place ≡ place_of size u → neighbours size u (take k offsets) ++ option_to_list there ≡ neighbours size u (take (k + 1) offsets)
      behind u is = ap (λ l. neighbours size u (take k offsets) ++ l) (to.leads u is) ∙ sym (one_more size u offsets k less)
