-- A cell's neighbours lie inside the grid, and what stands among the permitted steps. Assumes nothing.
use mathlib.Core.Bool.{Bool, true, false, cond, ◌&&◌}
use mathlib.Core.List.{List, [], ◌∷◌, ◌++◌, map, map-append}
use mathlib.Core.Logic.{◌⊎◌, inl, inr, ⊎_elim}
use mathlib.Core.Path.{◌≡◌, refl, sym, ap, ◌∙◌, subst}
use Prim.Native.Nat.{ℕ, ◌<◌}
use lib.Arith.{digits_lt}
use lib.IntN.{ℤ, pos, negsuc, ◌+ℤ◌}
use lib.ListN.{get_or, take, drop}
use lib.Dec.{T, leb, ltb, ltb→lt}
use lib.Signed.{mag}
use lib.Ieee.{Float}
use lib.Ieee.Bits.{is_true}
use lib.Ieee.Fits.{and_l, and_r}
use Rattle.binary32.specs.Steps.{straight, diagonal}
use Rattle.fifo.specs.Walk.{In}
use Rattle.fifo.proofs.Lists.{by_test, holds, true_or_false, in_front, in_back, in_either, in_map, in_mapped}
use Rattle.rules.specs.Sizes.{Size, count}
use Rattle.rules.specs.Cells.{offsets, index, row_of, col_of, within, neighbour, neighbours, straight_neighbours, diagonal_neighbours, keep, over, moves}

-- ---- inside the grid

-- What is between the edges is below the end.
pub within_below : (end k : ℤ) → T (within end k) → mag k < mag end
within_below (pos b) (pos a) t = ltb→lt a b (and_r (leb 0 a) (ltb a b) t)
within_below (negsuc b) (pos a) t = absurd (and_r (leb 0 a) false t)
within_below end (negsuc a) t = absurd t

cell_below : (size : Size) (row col : ℤ) → T (within size.rows row && within size.cols col) → index size (mag row) (mag col) < count size
cell_below size row col t =
    let row_within = within_below size.rows row (and_l (within size.rows row) (within size.cols col) t) in
    let col_within = within_below size.cols col (and_r (within size.rows row) (within size.cols col) t) in
    digits_lt row_within col_within

pub neighbour_inside : (size : Size) (u : ℕ) (offset : List ℤ) (v : ℕ) → In v (neighbour size u offset) → v < count size
unfolding neighbour
neighbour_inside size u offset v =
    let row = pos (row_of size u) +ℤ get_or offset 0 (pos 0) in
    let col = pos (col_of size u) +ℤ get_or offset 1 (pos 0) in
    by_test (λ l. In v l → v < count size) (within size.rows row && within size.cols col)
    (λ e. ⊎_elim (λ p. rw p (cell_below size row col (holds e))) absurd) (λ e. absurd)

-- Every neighbour of a cell, at whatever offsets, is a cell of the grid: its row and its column were tested against both ends.
pub neighbours_inside : (size : Size) (u : ℕ) (offsets : List (List ℤ)) (v : ℕ) → In v (neighbours size u offsets) → v < count size
unfolding neighbours
neighbours_inside size u [] v i = absurd i
neighbours_inside size u (offset ∷ others) v i =
    ⊎_elim (neighbour_inside size u offset v) (neighbours_inside size u others v) (in_either v (neighbour size u offset) (neighbours size u others) i)

-- ---- the cells that pass a test

kept_in : (test : ℕ → Bool) (v : ℕ) (vs : List ℕ) → In v (keep test vs) → In v vs × T (test v)
unfolding keep
kept_in test v [] i = absurd i
kept_in test v (w ∷ vs) i =
    let later : In v (keep test vs) → In v (w ∷ vs) × T (test v) = λ j. let r = kept_in test v vs j in (inr r.0, r.1) in
    by_test (λ l. In v l → In v (w ∷ vs) × T (test v)) (test w) (λ e. ⊎_elim (λ p. (inl p, subst (λ x. T (test x)) (sym p) (holds e))) later) (λ e. later) i

in_kept : (test : ℕ → Bool) (v : ℕ) (vs : List ℕ) → In v vs → T (test v) → In v (keep test vs)
unfolding keep
in_kept test v [] i t = absurd i
in_kept test v (w ∷ vs) i t =
    by_test (In v) (test w) (λ e. ⊎_elim inl (λ j. inr (in_kept test v vs j t)) i)
    (λ e. ⊎_elim (λ p. absurd (true_or_false (is_true (test w) (subst (λ x. T (test x)) p t)) e)) (λ j. in_kept test v vs j t) i)

-- Of two lists, those of the one and then those of the other.
keep_append : (test : ℕ → Bool) (l m : List ℕ) → keep test (l ++ m) ≡ keep test l ++ keep test m
unfolding keep
keep_append test [] m = refl
keep_append test (v ∷ l) m = go (test v) (keep_append test l m)
  where
    go : (b : Bool) → keep test (l ++ m) ≡ keep test l ++ keep test m → cond b (v ∷ keep test (l ++ m)) (keep test (l ++ m)) ≡ cond b (v ∷ keep test l) (keep test l) ++ keep test m
    go true later = ap (λ kept. v ∷ kept) later
    go false later = later

-- ---- the permitted steps

-- The steps to those cells of a list that pass: to those of two lists, and to one cell.
module _ {L : Type 0} (s : Float) (entering : Float → ℕ → L → L) (test : ℕ → Bool) where
  pub steps_append : (l m : List ℕ) → map (over s entering) (keep test (l ++ m)) ≡ map (over s entering) (keep test l) ++ map (over s entering) (keep test m)
  steps_append l m = ap (map (over s entering)) (keep_append test l m) ∙ map-append (over s entering) (keep test l) (keep test m)

  pub step_if : (v : ℕ) (may : Bool) → test v ≡ may → map (over s entering) (keep test (v ∷ [])) ≡ cond may ((v, entering s v) ∷ []) []
  unfolding keep
  step_if v true is = ap (λ b. map (over s entering) (cond b (v ∷ []) [])) is
  step_if v false is = ap (λ b. map (over s entering) (cond b (v ∷ []) [])) is

-- From u the cell v may be entered over a step of that length.
pub data Permitted (size : Size) (may_straight may_diagonal : ℕ → Bool) (u v : ℕ) : Float → Type 0 where
  straight_step : T (may_straight v) → In v (straight_neighbours size u) → Permitted size may_straight may_diagonal u v straight
  diagonal_step : T (may_diagonal v) → In v (diagonal_neighbours size u) → Permitted size may_straight may_diagonal u v diagonal

module _ {L : Type 0} (entering : Float → ℕ → L → L) (s : Float) (test : ℕ → Bool) (v : ℕ) (vs : List ℕ) where
  over_kept : (f : L → L) → In (v, f) (map (over s entering) (keep test vs)) → T (test v) × In v vs × (f ≡ entering s v)
  over_kept f i =
      let (w, kept, e) = in_map (over s entering) (v, f) (keep test vs) i in
      let same : v ≡ w = ap (λ (step : ℕ × (L → L)). step.0) e in
      let passed = kept_in test v vs (rw (← same) at kept) in
      (passed.1, passed.0, ap (λ (step : ℕ × (L → L)). step.1) e ∙ ap (entering s) (sym same))

  kept_over : T (test v) → In v vs → In (v, entering s v) (map (over s entering) (keep test vs))
  kept_over t i = in_mapped (over s entering) v (keep test vs) (in_kept test v vs i t)

module _ {L : Type 0} (size : Size) (may_straight may_diagonal : ℕ → Bool) (entering : Float → ℕ → L → L) (u v : ℕ) where
  abbrev straight_moves : List (ℕ × (L → L))
  straight_moves = map (over straight entering) (keep may_straight (straight_neighbours size u))

  abbrev diagonal_moves : List (ℕ × (L → L))
  diagonal_moves = map (over diagonal entering) (keep may_diagonal (diagonal_neighbours size u))

  -- What stands among the permitted steps: a straight neighbour that passes the one test, or a diagonal one that passes the other.
  pub moves_permitted :
      (f : L → L) → In (v, f) (moves size may_straight may_diagonal entering u)
      → (s : Float) × Permitted size may_straight may_diagonal u v s × (f ≡ entering s v)
  unfolding moves
  moves_permitted f i =
      ⊎_elim
      (λ j. let (t, k, e) = over_kept entering straight may_straight v (straight_neighbours size u) f j in (straight, straight_step t k, e))
      (λ j. let (t, k, e) = over_kept entering diagonal may_diagonal v (diagonal_neighbours size u) f j in (diagonal, diagonal_step t k, e))
      (in_either (v, f) straight_moves diagonal_moves i)

  -- And each of those stands there.
  pub permitted_moves : {s : Float} → Permitted size may_straight may_diagonal u v s → In (v, entering s v) (moves size may_straight may_diagonal entering u)
  unfolding moves
  permitted_moves (straight_step t i) =
      in_front (v, entering straight v) straight_moves diagonal_moves (kept_over entering straight may_straight v (straight_neighbours size u) t i)
  permitted_moves (diagonal_step t i) =
      in_back (v, entering diagonal v) straight_moves diagonal_moves (kept_over entering diagonal may_diagonal v (diagonal_neighbours size u) t i)

module _ {size : Size} {may_straight may_diagonal : ℕ → Bool} {u v : ℕ} where
  -- The entered cell is one of the grid, it passed one of the tests, and the step has one of the two lengths.
  pub permitted_inside : {s : Float} → Permitted size may_straight may_diagonal u v s → v < count size
  permitted_inside (straight_step t i) = neighbours_inside size u (take 4 offsets) v i
  permitted_inside (diagonal_step t i) = neighbours_inside size u (drop 4 offsets) v i

  pub permitted_passed : {s : Float} → Permitted size may_straight may_diagonal u v s → T (may_straight v) ⊎ T (may_diagonal v)
  permitted_passed (straight_step t i) = inl t
  permitted_passed (diagonal_step t i) = inr t

  pub permitted_length : {s : Float} (P : Float → Type 0) → P straight → P diagonal → Permitted size may_straight may_diagonal u v s → P s
  permitted_length P at_straight at_diagonal (straight_step t i) = at_straight
  permitted_length P at_straight at_diagonal (diagonal_step t i) = at_diagonal
