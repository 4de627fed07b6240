-- Document 01, "Queue rules": a cell's neighbours, in the order in which they are tried. Definitions only.
use Rattle.std.specs.Prelude.{Bool, cond, ◌&&◌, List, [], ◌∷◌, ◌++◌, map, ℕ, ◌+◌, ◌*◌, ◌/◌, ◌%◌, ℤ, pos, negsuc, ◌+ℤ◌, get_or, take, drop, Float}
use Rattle.std.specs.Int.Signed.{mag, lt_z, le_z}
use Rattle.binary32.specs.Steps.{straight, diagonal}
use Rattle.rules.specs.Sizes.{Size}

-- The offsets, row and column each: right, left, below, above; then below right, above right, below left, above left.
abbrev pub offsets : List (List ℤ)
offsets =
    (pos 0 ∷ pos 1 ∷ []) ∷ (pos 0 ∷ negsuc 0 ∷ []) ∷ (pos 1 ∷ pos 0 ∷ []) ∷ (negsuc 0 ∷ pos 0 ∷ []) ∷
    (pos 1 ∷ pos 1 ∷ []) ∷ (negsuc 0 ∷ pos 1 ∷ []) ∷ (pos 1 ∷ negsuc 0 ∷ []) ∷ (negsuc 0 ∷ negsuc 0 ∷ []) ∷ []

-- The cell at a row and a column, by its index, and a cell's row and column.
abbrev pub index : Size → ℕ → ℕ → ℕ
index size row col = row * mag size.cols + col

abbrev pub row_of : Size → ℕ → ℕ
row_of size u = u / mag size.cols

abbrev pub col_of : Size → ℕ → ℕ
col_of size u = u % mag size.cols

-- 0 <= k < end.
abbrev pub within : ℤ → ℤ → Bool
within end k = le_z (pos 0) k && lt_z k end

-- The cell at one offset from u, where that is inside the grid.
unfoldable pub neighbour : Size → ℕ → List ℤ → List ℕ
neighbour size u offset =
    let row = pos (row_of size u) +ℤ get_or offset 0 (pos 0) in
    let col = pos (col_of size u) +ℤ get_or offset 1 (pos 0) in
    cond (within size.rows row && within size.cols col) (index size (mag row) (mag col) ∷ []) []

-- The cells at some offsets from u, in the order of these.
unfoldable pub neighbours : Size → ℕ → List (List ℤ) → List ℕ
neighbours size u [] = []
neighbours size u (offset ∷ others) = neighbour size u offset ++ neighbours size u others

-- Those with step 1, and those with step 0x3FB504F3.
abbrev pub straight_neighbours : Size → ℕ → List ℕ
straight_neighbours size u = neighbours size u (take 4 offsets)

abbrev pub diagonal_neighbours : Size → ℕ → List ℕ
diagonal_neighbours size u = neighbours size u (drop 4 offsets)

-- The cells that pass a test.
unfoldable pub keep : (ℕ → Bool) → List ℕ → List ℕ
keep test [] = []
keep test (v ∷ vs) = cond (test v) (v ∷ keep test vs) (keep test vs)

-- A step of length s to v: `entering s v` turns the label of the cell that is left into that of v.
abbrev pub over : {L : Type 0} → Float → (Float → ℕ → L → L) → ℕ → ℕ × (L → L)
over s entering v = (v, entering s v)

-- The permitted steps from u, each with the label that it gives the entered cell: the straight ones that pass one test, then the
-- diagonal ones that pass another.
unfoldable pub moves : {L : Type 0} → Size → (ℕ → Bool) → (ℕ → Bool) → (Float → ℕ → L → L) → ℕ → List (ℕ × (L → L))
moves size may_straight may_diagonal entering u =
    map (over straight entering) (keep may_straight (straight_neighbours size u))
    ++ map (over diagonal entering) (keep may_diagonal (diagonal_neighbours size u))
