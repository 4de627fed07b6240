-- Cells at no edge: what the test for them says, and that the eight cells around one are its neighbours. Assumes nothing.
use mathlib.Core.Path.{◌≡◌, refl, sym, ap, ◌∙◌}
use mathlib.Core.Bool.{Bool, true, false, cond, false≢true}
use mathlib.Core.List.{List, [], ◌∷◌}
use Prim.Native.Nat.{ℕ, suc, ◌+◌, ◌-◌, ◌*◌, ◌<◌}
use native.Mathlib.Nat.{add-zero, suc-mul, lt_irrefl}
use native.Mathlib.Numerals.{add-one}
use native.Mathlib.Omega.{arith}
use borrow.Author.Tests.{ltb-true}
use lib.Dec.{ltb, lt→ltb}
use lib.Ieee.Bits.{is_true}
use lib.IntN.{ℤ, pos, negsuc, ◌+ℤ◌}
use lib.ListN.{length, get_or, set}
use lib.Seq.{sets}
use lib.Signed.{mag, lt_z}
use mir.Syntax.{w32}
use mir.Val.{SFits}
use Rattle.rules.specs.declared.Size.{Size}
use Rattle.rules.specs.Cells.{offsets, index, row_of, col_of, within, neighbour, neighbours, straight_neighbours}
use Rattle.cells.specs.Neighbours.{Neighbours, CellOf, Place, place_of, Lists}
use Rattle.cells.specs.Storing.{Step, stay, on, back, row_part, col_part, Stepping}
use Rattle.cells.specs.Interior.{Between, Inner, SaysInner, Interior, SaysInterior}
use Rattle.cells.proofs.Bounds.{Side, side, Bounded, bounded, sides_fit, read, side_read, side_same}
use Rattle.cells.proofs.Edges.{Inside, inside, between, inside_is_side, step_fits, stepped, row_between, col_between, place_row, place_col}
use Rattle.cells.proofs.Edges.{step_at, steps}
use Rattle.cells.proofs.NeighbourArray.{Filled, none_filled, more_filled, all_filled, lists_decided}

-- ---- the test of the code

module _ {end k : ℤ} (here : Between end k) where
  end_side : Side end
  end_side = side end here.side

  k_in : Inside end k
  k_in = inside end k here.here

  pub on_fits : SFits w32 (read k +ℤ pos 1)
  on_fits = step_fits end_side k_in on

  -- The first test said no.
  pub not_inner : {answer : Bool} → lt_z (pos 0) (read k) ≡ answer → answer ≡ false → SaysInner end k answer
  not_inner first refused = record {
    says = λ said. absurd (false≢true (sym refused ∙ said));
    told = λ inner. sym (rw (side_read (inside_is_side end_side k_in)) at first) ∙ is_true (ltb 0 (mag k)) (lt→ltb 0 (mag k) inner.before);
  }

  -- It said yes, and so the second decides.
  pub inner_said : lt_z (pos 0) (read k) ≡ true → SaysInner end k (lt_z (read (read k +ℤ pos 1)) (read end))
  inner_said first =
      let next : read (read k +ℤ pos 1) ≡ pos (mag k + 1) = stepped end_side k_in on ∙ ap (λ (z : ℤ). z +ℤ pos 1) k_in.is_mag in
      let some : ltb 0 (mag k) ≡ true = rw (side_read (inside_is_side end_side k_in)) at first in
      record {
        says = λ second.
            let less : ltb (mag k + 1) (mag end) ≡ true = rw (next, side_read end_side) at second in
            record { before = ltb-true 0 (mag k) some; behind = ltb-true (mag k + 1) (mag end) less };
        told = λ inner. rw (next, side_read end_side) (is_true (ltb (mag k + 1) (mag end)) (lt→ltb (mag k + 1) (mag end) inner.behind));
      }

module _ (size : Size) (u : ℕ) (cell : CellOf size u) {place : Place} (is : place ≡ place_of size u) where
  cell_bounds : Bounded size
  cell_bounds = bounded size cell.bounds

  row_is : read place.row ≡ pos (row_of size u)
  row_is = place_row size u cell is

  col_is : read place.col ≡ pos (col_of size u)
  col_is = place_col size u cell is

  pub row_here : Between (read size.rows) (read place.row)
  row_here =
      rw (side_same cell_bounds.rows_side, row_is)
      (record { side = (sides_fit size cell.bounds).0; here = row_between size cell_bounds u cell.below })

  pub col_here : Between (read size.cols) (read place.col)
  col_here =
      rw (col_is, side_same cell_bounds.cols_side)
      (record { side = (sides_fit size cell.bounds).1; here = col_between size cell_bounds u cell.below })

  row_inner : Interior size u → Inner (read size.rows) (read place.row)
  row_inner interior = rw (side_same cell_bounds.rows_side, row_is) (record { before = interior.above; behind = interior.below })

  col_inner : Interior size u → Inner (read size.cols) (read place.col)
  col_inner interior = rw (col_is, side_same cell_bounds.cols_side) (record { before = interior.left; behind = interior.right })

  pub not_interior : {by_Row : Bool} → SaysInner (read size.rows) (read place.row) by_Row → by_Row ≡ false → SaysInterior size u by_Row
  not_interior rows_say refused = record { says = λ said. absurd (false≢true (sym refused ∙ said)); told = λ interior. rows_say.told (row_inner interior) }

  -- What the tests of the row and of the column say of the cell.
  pub interior_said :
      {by_Row by_col : Bool} → SaysInner (read size.rows) (read place.row) by_Row → by_Row ≡ true → SaysInner (read size.cols) (read place.col) by_col
      → SaysInterior size u by_col
  interior_said rows_say said cols_say =
      let of_row : Inner size.rows (pos (row_of size u)) = rw (side_same cell_bounds.rows_side, row_is) at (rows_say.says said) in
      record {
        says = λ also.
            let of_col : Inner size.cols (pos (col_of size u)) = rw (col_is, side_same cell_bounds.cols_side) at (cols_say.says also) in
            record { cell = cell; above = of_row.before; below = of_row.behind; left = of_col.before; right = of_col.behind };
        told = λ interior. cols_say.told (col_inner interior);
      }

-- The row below a row starts where that row ends.
pub row_below : (row cols : ℕ) → (row + 1) * cols ≡ row * cols + cols
row_below row cols = ap (λ (n : ℕ). n * cols) (add-one row) ∙ suc-mul row cols

-- ---- the eight cells around it

-- One step back from a number above 0.
back_one : (n : ℕ) → 0 < n → pos n +ℤ negsuc 0 ≡ pos (n - 1)
back_one n some = go (ltb n 1) refl
  where
    go : (t : Bool) → ltb n 1 ≡ t → cond t (negsuc (1 - suc n)) (pos (n - 1)) ≡ pos (n - 1)
    go true e = absurd (lt_irrefl 0 (let less = ltb-true n 1 e in omega arith))
    go false e = refl

-- A step from what is neither the first nor the last stays between the edges.
inner_step : {end : ℤ} (n : ℕ) {d : ℤ} → Side end → 0 < n → n + 1 < mag end → Step d → within end (pos n +ℤ d) ≡ true
inner_step {end} n end_side some more stay = ap (λ m. within end (pos m)) (add-zero n) ∙ is_true (within end (pos n)) (between n end_side (omega arith))
inner_step {end} n end_side some more on = is_true (within end (pos (n + 1))) (between (n + 1) end_side more)
inner_step {end} n end_side some more back = rw (back_one n some) (is_true (within end (pos (n - 1))) (between (n - 1) end_side (omega arith)))

module _ {size : Size} {u : ℕ} (interior : Interior size u) (i : ℕ) where
  bounds : Bounded size
  bounds = bounded size interior.cell.bounds

  abbrev offset : List ℤ
  offset = get_or offsets i []

  -- From a cell at no edge an offset leads to a row and a column of the grid.
  row_stays : within size.rows (pos (row_of size u) +ℤ row_part offset) ≡ true
  row_stays = inner_step (row_of size u) bounds.rows_side interior.above interior.below (step_at steps i).0

  col_stays : within size.cols (pos (col_of size u) +ℤ col_part offset) ≡ true
  col_stays = inner_step (col_of size u) bounds.cols_side interior.left interior.right (step_at steps i).1

  -- So there is a neighbour at each.
  one_inside : neighbour size u offset ≡ index size (mag (pos (row_of size u) +ℤ row_part offset)) (mag (pos (col_of size u) +ℤ col_part offset)) ∷ []
  unfolding neighbour
  one_inside = rw (row_stays, col_stays)

  -- The same as the code has them.
  module _ {place : Place} (is : place ≡ place_of size u) where
    pub steps_from : Stepping size place offset
    steps_from = record {
      stands = rw is (record { bounds = interior.cell.bounds; row_in = row_between size bounds u interior.cell.below; col_in = col_between size bounds u interior.cell.below });
      row_step = (step_at steps i).0;
      col_step = (step_at steps i).1;
    }

    pub row_inside : within size.rows (place.row +ℤ row_part offset) ≡ true
    row_inside = rw is row_stays

    pub col_inside : within size.cols (place.col +ℤ col_part offset) ≡ true
    col_inside = rw is col_stays

-- ---- the array that is filled with them

module _ {size : Size} {u : ℕ} (interior : Interior size u) where
  -- Four of them are straight.
  four_straight : 4 ≡ length (straight_neighbours size u)
  unfolding neighbours
  four_straight = rw (one_inside interior 0, one_inside interior 1, one_inside interior 2, one_inside interior 3)

  -- One offset more: it leads to a cell, which stands behind the others.
  pub one_more_inside :
      {cells : List ℕ} {i v : ℕ} → Filled size u cells i i → i < 8 → v ∷ [] ≡ neighbour size u (get_or offsets i []) → Filled size u (set cells i v) (i + 1) (i + 1)
  one_more_inside {cells} {i} {v} before less leads =
      let here = neighbour size u (get_or offsets i []) in
      let stored : set cells i v ≡ sets cells i here = rw (← leads) in
      let counted : i + 1 ≡ i + length here = rw (← leads) in
      more_filled size u before less stored counted

  pub all_inside : {cells : List ℕ} {i : ℕ} → i ≡ 8 → Filled size u cells i i → Lists size u (record { cells = cells; straight = 4; count = 8 })
  all_inside {cells} all filled =
      let eight : Filled size u cells 8 8 = rw all at filled in
      all_filled interior.cell eight.cells_are four_straight eight.found_is (omega arith)

-- Whatever lists the neighbours of a cell at no edge has eight, four of them straight. Proof: an array that is filled with them lists them, and no
-- other struct does.
pub eight_around : {size : Size} {u : ℕ} → Interior size u → {near : Neighbours} → Lists size u near → (near.straight ≡ 4) × (near.count ≡ 8)
eight_around {size} {u} interior lists =
    let filled = one 7 (omega arith) (one 6 (omega arith) (one 5 (omega arith) (one 4 (omega arith) (one 3 (omega arith) (one 2 (omega arith) (one 1 (omega arith) (one 0 (omega arith) (none_filled size u)))))))) in
    let same = lists_decided lists (all_inside interior refl filled) in
    (ap (λ n. n.straight) same, ap (λ n. n.count) same)
  where
    there : ℕ → ℕ
    there i = index size (mag (pos (row_of size u) +ℤ row_part (get_or offsets i []))) (mag (pos (col_of size u) +ℤ col_part (get_or offsets i [])))

    one : (i : ℕ) → i < 8 → {cells : List ℕ} → Filled size u cells i i → Filled size u (set cells i (there i)) (i + 1) (i + 1)
    one i less filled = one_more_inside interior filled less (sym (one_inside interior i))
