-- Document 01, "Grid file and program": the grids of a request, out of the file. Definitions only.
use Rattle.std.specs.Prelude.{Bool, List, [], ◌∷◌, ℕ, zero, suc, ◌+◌, ◌/◌, take, drop, Float, Result, Ok, Err}
use Rattle.std.specs.Float.{binary32}
use Rattle.std.specs.Float.Ieee.{of_bits}
use Rattle.rules.specs.declared.BarrierDiagonals.{BarrierDiagonals}
use Rattle.rules.specs.declared.Size.{Size}
use Rattle.rules.specs.declared.Spacing.{Spacing}
use Rattle.rules.specs.Sizes.{Refusal, number}
use Rattle.gridfile.specs.Fields.{Part, u32_of}
use Rattle.gridfile.specs.Request.{Request, BadFile, search_number, parsed}

-- The bytes of a part.
abbrev pub bytes_in : List ℕ → Part → List ℕ
bytes_in file p = take p.len (drop p.start file)

-- Floats as bits, four bytes each: so many of them from a place on.
unfoldable pub floats_from : List ℕ → ℕ → ℕ → List Float
floats_from file at zero = []
floats_from file at (suc count) = of_bits binary32 (u32_of file at) ∷ floats_from file (at + 4) count

-- The floats of a part.
abbrev pub floats_in : List ℕ → Part → List Float
floats_in file p = floats_from file p.start (p.len / 4)

-- A request with its grids written out, or a refusal.
pub data Asked : Type 0 where
  refuses : Refusal → Asked
  asks : ℕ → BarrierDiagonals → Bool → Size → Spacing → (targets obstacles : List ℕ) → (times values : List Float) → Asked

-- What the code's answer says: a request, or document 01's number for a byte string that is no file.
abbrev pub written_out : List ℕ → Result Request BadFile → Asked
written_out file (Ok r) =
    let g = r.grids in
    asks (search_number r.search) r.diagonals r.adjacent r.size r.spacing
    (bytes_in file g.targets) (bytes_in file g.obstacles) (floats_in file g.times) (floats_in file g.values)
written_out file (Err e) = refuses (number 8)

-- What a byte string asks for, or refusal 8.
abbrev pub asked : List ℕ → Asked
asked file = written_out file (parsed file)
