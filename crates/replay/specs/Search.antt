-- The grids of a case, by their tags in a file. Definitions only.
use Rattle.std.specs.Prelude.{ℕ, List, [], ◌∷◌, Option, Some, None}
use Rattle.gridfile.specs.Request.{search_number, grids_of}
use Rattle.gridfile.specs.declared.searches.Search.{Search}

-- Those of its search. A case of no search has targets alone.
abbrev pub tags_of : Option Search → List ℕ
tags_of (Some search) = grids_of (search_number search)
tags_of None = 0x04 ∷ []
