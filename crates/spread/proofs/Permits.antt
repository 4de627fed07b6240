-- The steps that a rule permits, as the code tests them. Assumes nothing.
use mathlib.Core.Bool.{Bool, true, false, not, cond, ◌&&◌, ◌||◌}
use mathlib.Core.List.{List}
use mathlib.Core.Logic.{⊎_elim}
use mathlib.Core.Path.{◌≡◌, refl, sym, ap, ◌∙◌}
use Prim.Native.Nat.{ℕ, ◌+◌, ◌*◌, ◌/◌, ◌%◌, ◌<◌}
use native.Mathlib.Omega.{arith}
use borrow.Author.Tests.{ne_eqb}
use lib.Dec.{T, eqb}
use lib.IntN.{nat_abs}
use lib.ListN.{get_or}
use lib.Signed.{mag, non_neg}
use mir.Syntax.{w32}
use mir.Val.{Fits}
use Rattle.cells.proofs.Bounds.{Bounded, bounded, read, cast_fits, cast_is}
use Rattle.cells.proofs.Edges.{index_below, row_less, col_less, cols_cast_some}
use Rattle.fifo.proofs.Lists.{same_or_not}
use Rattle.rules.specs.declared.BarrierDiagonals.{BarrierDiagonals}
use Rattle.rules.specs.declared.BarrierDiagonals.TheVariants.{Include, Exclude}
use Rattle.rules.specs.declared.Size.{Size}
use Rattle.rules.specs.Sizes.{Grid, grid, count}
use Rattle.rules.specs.Cells.{index, row_of, col_of}
use Rattle.rules.specs.Distances.{obstacle, free, blocked}
use Rattle.rules.proofs.Tests.{opposite}
use Rattle.spread.specs.declared.search.Rule.{Rule}
use Rattle.spread.specs.Nets.{by_step, ways, avoids, reads_times}
use Rattle.spread.specs.Steps.{may_straight, may_diagonal, avoided_with, avoided_number, may_enter, blocked_by, may_step}
use Rattle.spread.specs.Steps.{SaysFree, Pair, Crossed, Among, MayAsk}

-- ---- obstacles

-- 255 is no 0, so a byte of 0 is all that is free.
pub says_free : (obstacles : List ℕ) (cell : ℕ) → SaysFree obstacles cell (eqb (get_or obstacles cell 0) 0)
says_free obstacles cell = record { says = λ size. free_byte (get_or obstacles cell 0) }
  where
    free_byte : (b : ℕ) → eqb b 0 ≡ not (not (eqb b 0) || eqb b 255)
    free_byte b = ⊎_elim (λ zero. rw zero) (λ nonzero. rw (ne_eqb b 0 nonzero)) (same_or_not b 0)

obstacle_is : {obstacles : List ℕ} {cell : ℕ} {answer : Bool} → SaysFree obstacles cell answer → (size : Size) → obstacle (grid size obstacles) cell ≡ not answer
obstacle_is {obstacles} {cell} {answer} free_says size = opposite answer (obstacle (grid size obstacles) cell) (free_says.says size)

-- ---- the cell in the row of one cell and the column of another

module _ {size : Size} {a b : ℕ} (pair : Pair size a b) where
  within : Bounded size
  within = bounded size pair.bounds

  cols_are : nat_abs (read size.cols) ≡ mag size.cols
  cols_are = cast_is within.cols_side

  pub cols_cast : T (non_neg (read size.cols)) × Fits w32 (nat_abs (read size.cols))
  cols_cast = cast_fits within.cols_side w32 tt

  pub cols_some : 0 < nat_abs (read size.cols)
  cols_some = cols_cast_some size within a pair.first

  -- It is in the grid: its row is the one cell's, and its column the other's.
  crossed_inside : a / mag size.cols * mag size.cols + b % mag size.cols < count size
  crossed_inside = index_below size (row_of size a) (col_of size b) (row_less size within a pair.first) (col_less size within b pair.second)

  pub row_fits : Fits w32 (a / nat_abs (read size.cols) * nat_abs (read size.cols))
  row_fits = rw cols_are (record { fits = let below = crossed_inside in let most = within.cells_most in omega arith })

  pub crossed_fits : Fits w32 (a / nat_abs (read size.cols) * nat_abs (read size.cols) + b % nat_abs (read size.cols))
  crossed_fits = rw cols_are (record { fits = let below = crossed_inside in let most = within.cells_most in omega arith })

  pub crossed : Crossed size a b (a / nat_abs (read size.cols) * nat_abs (read size.cols) + b % nat_abs (read size.cols))
  crossed = rw cols_are (record { at_index = refl; inside = crossed_inside })

-- ---- between two obstacles

module _ {size : Size} {obstacles : List ℕ} {u v one : ℕ} (beside : Crossed size u v one) {answer : Bool} (free_says : SaysFree obstacles one answer) where
  first_is : obstacle (grid size obstacles) (index size (row_of size u) (col_of size v)) ≡ not answer
  first_is = ap (obstacle (grid size obstacles)) (sym beside.at_index) ∙ obstacle_is free_says size

  pub not_between : answer ≡ true → false ≡ blocked Exclude (grid size obstacles) u v
  not_between is_free = sym (ap (λ b. b && obstacle (grid size obstacles) (index size (row_of size v) (col_of size u))) (first_is ∙ ap not is_free))

  pub between_if :
      {other : ℕ} {answer' : Bool} → answer ≡ false → Crossed size v u other → SaysFree obstacles other answer'
      → not answer' ≡ blocked Exclude (grid size obstacles) u v
  between_if closed beside' free_says' =
      sym (ap (λ b. b && obstacle (grid size obstacles) (index size (row_of size v) (col_of size u))) (first_is ∙ ap not closed)
      ∙ ap (obstacle (grid size obstacles)) (sym beside'.at_index) ∙ obstacle_is free_says' size)

-- ---- the rules by their numbers

permit : (may blocks : Bool) → (may && not blocks) ≡ cond blocks false may
permit true true = refl
permit true false = refl
permit false true = refl
permit false false = refl

-- What may be entered straight, and diagonally, where obstacles are avoided or not.
straight_by : (avoiding : Bool) (diagonals : BarrierDiagonals) (obstacles : Grid ℕ) (u v : ℕ) → cond avoiding (free obstacles v) true ≡ may_step (cond avoiding (avoided_with diagonals) 0) false obstacles u v
straight_by true Include obstacles u v = refl
straight_by true Exclude obstacles u v = refl
straight_by false diagonals obstacles u v = refl

diagonal_by :
    (avoiding : Bool) (diagonals : BarrierDiagonals) (obstacles : Grid ℕ) (u v : ℕ)
    → cond avoiding (free obstacles v && not (blocked diagonals obstacles u v)) true ≡ may_step (cond avoiding (avoided_with diagonals) 0) true obstacles u v
diagonal_by true Include obstacles u v = permit (free obstacles v) false
diagonal_by true Exclude obstacles u v = permit (free obstacles v) (blocked Exclude obstacles u v)
diagonal_by false diagonals obstacles u v = refl

pub permitted_by :
    (rule : Rule) (diagonally : Bool) (obstacles : Grid ℕ) (u v : ℕ)
    → cond diagonally (may_diagonal rule obstacles u v) (may_straight rule obstacles v) ≡ may_step (avoided_number rule) diagonally obstacles u v
permitted_by rule true = diagonal_by (avoids rule) (ways rule).diagonals
permitted_by rule false = straight_by (avoids rule) (ways rule).diagonals

-- Where it reads a grid.
pub avoids_by : (rule : Rule) → eqb (avoided_number rule) 0 ≡ false → avoids rule ≡ true
avoids_by rule = some_avoided (avoids rule)
  where
    some_avoided : (avoiding : Bool) → eqb (cond avoiding (avoided_with (ways rule).diagonals) 0) 0 ≡ false → avoiding ≡ true
    some_avoided true e = refl
    some_avoided false e = sym e

pub reads_by : (rule : Rule) → eqb (ways rule).formula by_step ≡ false → reads_times rule ≡ true
reads_by rule = ap not

-- ---- the tests by number

pub entered_anywhere : (n : ℕ) (obstacles : Grid ℕ) (v : ℕ) → n ≡ 0 → true ≡ may_enter n obstacles v
entered_anywhere n obstacles v nothing = rw nothing

pub entered_if_free : (n : ℕ) {obstacles : List ℕ} {v : ℕ} {answer : Bool} → (n ≡ 0 → ⊥) → SaysFree obstacles v answer → (size : Size) → answer ≡ may_enter n (grid size obstacles) v
entered_if_free n some free_says size = rw (ne_eqb n 0 some) (free_says.says size)

pub asked : {avoided : ℕ} {size : Size} {obstacles : List ℕ} {u v : ℕ} → MayAsk avoided size obstacles u v → avoided ≡ 2 → Among size obstacles u v
asked asks both = record { pair = asks.pair; lent = asks.lent (rw both) }

module _ (n : ℕ) (obstacles : Grid ℕ) (u v : ℕ) where
  pub never_blocked : (diagonally : Bool) → (n ≡ 2 → ⊥) → false ≡ blocked_by n diagonally obstacles u v
  never_blocked diagonally other = rw (ne_eqb n 2 other)

  pub straight_not_blocked : {diagonally : Bool} → n ≡ 2 → diagonally ≡ false → false ≡ blocked_by n diagonally obstacles u v
  straight_not_blocked both is_straight = rw (both, is_straight)

  pub blocked_between : {diagonally answer : Bool} → n ≡ 2 → diagonally ≡ true → answer ≡ blocked Exclude obstacles u v → answer ≡ blocked_by n diagonally obstacles u v
  blocked_between both is_diagonal says = rw (both, is_diagonal) says
