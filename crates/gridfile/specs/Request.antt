-- Document 01, "Grid file and program": the request that a file holds, or refusal 8. Definitions only.
use Rattle.std.specs.Prelude.{Bool, true, false, cond, ◌&&◌, ◌||◌, List, [], ◌∷◌, ℕ, ◌+◌, ◌*◌, ◌%◌, leb, eqb, pos, Result, Ok, Err}
use Rattle.std.specs.Float.{binary32}
use Rattle.std.specs.Float.Ieee.{of_bits}
use Rattle.rules.specs.declared.BarrierDiagonals.{BarrierDiagonals}
use Rattle.rules.specs.declared.BarrierDiagonals.TheVariants.{Include, Exclude}
use Rattle.rules.specs.Sizes.{any}
use Rattle.gridfile.specs.Fields.{Part, Field, Fields, cut, whole, byte, u16_of, u32_of, fields_of, tags, rising, content_of, is_field}
pub use Rattle.gridfile.specs.declared.head.Head.{Head}
pub use Rattle.gridfile.specs.declared.grids.Grids.{Grids}
pub use Rattle.gridfile.specs.declared.request.Request.{Request}
pub use Rattle.gridfile.specs.declared.request.BadFile.{BadFile}
pub use Rattle.gridfile.specs.declared.searches.Search.{Search}
pub use Rattle.gridfile.specs.declared.searches.Search.TheVariants.{DistancesUpTo, DistanceWithObstacles, TravelDistancesUpTo, ValueAtClosestTarget, ValueAtClosestTravelTarget, ValueAtClosestLessThanTravelTarget, SumWithinTravelDistance, SumTargetsWithinTravelDistance}

-- ---- the searches and their numbers

-- Each search has a number, 1 to 8.
abbrev pub search_number : Search → ℕ
search_number DistancesUpTo = 1
search_number DistanceWithObstacles = 2
search_number TravelDistancesUpTo = 3
search_number ValueAtClosestTarget = 4
search_number ValueAtClosestTravelTarget = 5
search_number ValueAtClosestLessThanTravelTarget = 6
search_number SumWithinTravelDistance = 7
search_number SumTargetsWithinTravelDistance = 8

-- The search with a number. Any other number, which no file has, gives the last.
abbrev pub search_of : ℕ → Search
search_of number =
    cond (eqb number 1) DistancesUpTo
    (cond (eqb number 2) DistanceWithObstacles
    (cond (eqb number 3) TravelDistancesUpTo
    (cond (eqb number 4) ValueAtClosestTarget
    (cond (eqb number 5) ValueAtClosestTravelTarget
    (cond (eqb number 6) ValueAtClosestLessThanTravelTarget
    (cond (eqb number 7) SumWithinTravelDistance SumTargetsWithinTravelDistance))))))

-- A number that is not 1 to 8 is no search's.
abbrev pub search_asked : ℕ → Result Search BadFile
search_asked number = cond (leb 1 number && leb number 8) (Ok (search_of number)) (Err (record {}))

-- ---- what each search uses

-- The grids are exactly these: 04 targets or mask, 05 obstacles, 06 times, 07 values or amounts.
unfoldable pub grids_of : ℕ → List ℕ
grids_of search =
    cond (eqb search 1) (0x04 ∷ [])
    (cond (eqb search 2) (0x04 ∷ 0x05 ∷ [])
    (cond (eqb search 3) (0x04 ∷ 0x06 ∷ [])
    (cond (eqb search 4) (0x04 ∷ 0x07 ∷ [])
    (cond (eqb search 5 || eqb search 6 || eqb search 7) (0x04 ∷ 0x06 ∷ 0x07 ∷ [])
    (cond (eqb search 8) (0x06 ∷ 0x07 ∷ []) [])))))

-- The cell size is used by searches 1 and 2, the limit by 1, 3, 6, 7 and 8, diagonals by 2, adjacent by 7.
abbrev pub uses_cell_size : ℕ → Bool
uses_cell_size search = any (eqb search) (1 ∷ 2 ∷ [])

abbrev pub uses_limit : ℕ → Bool
uses_limit search = any (eqb search) (1 ∷ 3 ∷ 6 ∷ 7 ∷ 8 ∷ [])

abbrev pub uses_diagonals : ℕ → Bool
uses_diagonals search = eqb search 2

abbrev pub uses_adjacent : ℕ → Bool
uses_adjacent search = eqb search 7

-- ---- 01, 02 and 03

-- 01: search, diagonals, adjacent. 02: rows, columns, u16 each. 03: cell size, limit, f32 each, here by their bits.
abbrev pub head_of : List ℕ → ℕ → ℕ → ℕ → Head
head_of file at_01 at_02 at_03 = record {
  search = byte file at_01;
  diagonals = byte file (at_01 + 1);
  adjacent = byte file (at_01 + 2);
  rows = u16_of file at_02;
  cols = u16_of file (at_02 + 2);
  cell_size = u32_of file at_03;
  limit = u32_of file (at_03 + 4);
}

-- Unused flags and numbers are zero bytes: -0.0 is none.
abbrev pub zero_unless : Bool → ℕ → Bool
zero_unless used number = used || eqb number 0

-- The search is 1 to 8, a flag 0 or 1, and 0 where it is unused.
abbrev pub flags_fit : ℕ → ℕ → ℕ → Bool
flags_fit search diagonals adjacent =
    leb 1 search && leb search 8 && leb diagonals 1 && leb adjacent 1
    && zero_unless (uses_diagonals search) diagonals && zero_unless (uses_adjacent search) adjacent

-- Cell size and limit, by their bits, are 0 where they are unused.
abbrev pub numbers_fit : ℕ → ℕ → ℕ → Bool
numbers_fit search cell_size limit = zero_unless (uses_cell_size search) cell_size && zero_unless (uses_limit search) limit

-- n is at most 1,024.
abbrev pub most_file_cells : ℕ
most_file_cells = 1024

abbrev pub few_cells : ℕ → ℕ → Bool
few_cells rows cols = leb (rows * cols) most_file_cells

-- Nothing in 01, 02 or 03 is outside its range.
unfoldable pub head_fits : Head → Bool
head_fits h = flags_fit h.search h.diagonals h.adjacent && numbers_fit h.search h.cell_size h.limit && few_cells h.rows h.cols

-- ---- 04 to 07

-- Each grid by its tag. One that is not there is empty.
abbrev pub by_tag : List Field → Grids
by_tag fields = record {
  targets = content_of 0x04 fields;
  obstacles = content_of 0x05 fields;
  times = content_of 0x06 fields;
  values = content_of 0x07 fields;
}

-- A grid field has at most 4,096 bytes, and a float field a multiple of 4. That the length is n is not asked here.
abbrev pub longest_field : ℕ
longest_field = 4096

abbrev pub small_bytes : Part → Bool
small_bytes p = leb p.len longest_field

abbrev pub small_floats : Part → Bool
small_floats p = small_bytes p && eqb (p.len % 4) 0

-- Each of the four has such a length.
unfoldable pub grids_fit : Grids → Bool
grids_fit g = small_bytes g.targets && small_bytes g.obstacles && small_floats g.times && small_floats g.values

-- ---- the file

-- Whether two lists of tags are the same.
unfoldable pub same : List ℕ → List ℕ → Bool
same [] [] = true
same [] (b ∷ more) = false
same (a ∷ rest) [] = false
same (a ∷ rest) (b ∷ more) = eqb a b && same rest more

-- Diagonals: 0 Include, 1 Exclude, as is any other number, which no file has.
abbrev pub diagonals_of : ℕ → BarrierDiagonals
diagonals_of flag = cond (eqb flag 0) Include Exclude

-- What the bytes ask for: the flags by their meaning, floats from their bits.
abbrev pub as_request : Search → Head → Grids → Request
as_request search h g = record {
  search = search;
  diagonals = diagonals_of h.diagonals;
  adjacent = eqb h.adjacent 1;
  size = record { rows = pos h.rows; cols = pos h.cols };
  spacing = record { cell_size = of_bits binary32 h.cell_size; limit = of_bits binary32 h.limit };
  grids = g;
}

-- What a byte string that does not keep the form gives: refusal 8.
abbrev pub bad : Result Request BadFile
bad = Err (record {})

-- 01, 02, 03 always, of 3, 4 and 8 bytes; tags rise; the grids are exactly the search's. Any breach is refusal 8.
unfoldable pub judged : List ℕ → Fields → Result Request BadFile
judged file (whole (f1 ∷ f2 ∷ f3 ∷ grids)) =
    let h = head_of file f1.content.start f2.content.start f3.content.start in
    let g = by_tag grids in
    cond
    (is_field 0x01 3 f1 && is_field 0x02 4 f2 && is_field 0x03 8 f3
    && rising (tags (f1 ∷ f2 ∷ f3 ∷ grids)) && same (tags grids) (grids_of h.search) && head_fits h && grids_fit g)
    (Ok (as_request (search_of h.search) h g)) bad
judged file (whole (f1 ∷ f2 ∷ [])) = bad
judged file (whole (f1 ∷ [])) = bad
judged file (whole []) = bad
judged file cut = bad

-- The request of a byte string, or refusal 8.
abbrev pub parsed : List ℕ → Result Request BadFile
parsed file = judged file (fields_of file)
