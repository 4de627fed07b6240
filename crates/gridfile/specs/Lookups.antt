-- What the code's own steps find, for the contracts of its inner functions and of `grids`. Document 01's form is in Fields and Request. Definitions only.
use Rattle.std.specs.Prelude.{Bool, false, cond, ◌&&◌, List, ℕ, ◌+◌, leb, eqb, length, Option, Some, None}
use Rattle.rules.specs.Sizes.{any}
use Rattle.gridfile.specs.Fields.{Part, part, Fields, cut, whole, byte, u16_of, tags}
use Rattle.gridfile.specs.Request.{Grids, grids_of, same, by_tag}
pub use Rattle.gridfile.specs.declared.searches.Has.{Has}

-- ---- a field at a place

-- The content of the field that stands there, if it has this tag and is not cut.
abbrev pub field_at : List ℕ → ℕ → ℕ → Option Part
field_at file at tag =
    let len = u16_of file (at + 1) in
    cond (leb (at + 3) (length file) && eqb (byte file at) tag && leb (at + 3 + len) (length file)) (Some (part (at + 3) len)) None

-- Whether a content was found, and has this length.
abbrev pub long : ℕ → Option Part → Bool
long len (Some p) = eqb p.len len
long len None = false

-- Whether a field of this tag and this length stands there.
abbrev pub stands_at : List ℕ → ℕ → ℕ → ℕ → Bool
stands_at file at tag len = long len (field_at file at tag)

-- 01 of 3 bytes, 02 of 4 and 03 of 8 are the first fields.
abbrev pub has_head : List ℕ → Bool
has_head file = stands_at file 0 0x01 3 && stands_at file 6 0x02 4 && stands_at file 13 0x03 8

-- ---- the grids from a place on

-- Which of the four grids a list of tags names.
abbrev pub has_of : List ℕ → Has
has_of tags = record { targets = any (eqb 0x04) tags; obstacles = any (eqb 0x05) tags; times = any (eqb 0x06) tags; values = any (eqb 0x07) tags }

-- The content that was found is the grid, and the next field stands behind it.
abbrev pub then_next : Option Part → Option (Part × ℕ)
then_next (Some p) = Some (p, p.start + p.len)
then_next None = None

-- A grid that the search has is the field at this place; one that it has not is empty.
abbrev pub next_grid : List ℕ → ℕ → ℕ → Bool → Option (Part × ℕ)
next_grid file at tag has = cond has (then_next (field_at file at tag)) (Some (part 0 0, at))

-- The grids of some fields, if these are exactly the search's.
unfoldable pub grids_in : ℕ → Fields → Option Grids
grids_in search cut = None
grids_in search (whole fields) = cond (same (tags fields) (grids_of search)) (Some (by_tag fields)) None
