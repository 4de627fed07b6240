-- A grid that was fetched to the front of an array is the file's. Assumes nothing.
use mathlib.Core.Path.{◌≡◌, ap, ◌∙◌}
use mathlib.Core.List.{List, ◌++◌}
use Prim.Native.Nat.{ℕ, ◌+◌, ◌/◌, ◌≤◌}
use lib.Ieee.{Float}
use lib.ListN.{length, take}
use lib.Seq.{take_at}
use Rattle.gridfile.specs.declared.fields.Part.{Part}
use Rattle.gridfile.specs.Contents.{bytes_in, floats_in}
use Rattle.gridfile.proofs.Stores.{part_long, floats_long}

pub fetched_bytes : (file : List ℕ) (p : Part) (rest after : List ℕ) → p.start + p.len ≤ length file → after ≡ bytes_in file p ++ rest → take p.len after ≡ bytes_in file p
fetched_bytes file p rest after inside is = ap (take p.len) is ∙ take_at (bytes_in file p) rest p.len (part_long file p.start p.len inside)

pub fetched_floats : (file : List ℕ) (p : Part) (rest after : List Float) → after ≡ floats_in file p ++ rest → take (p.len / 4) after ≡ floats_in file p
fetched_floats file p rest after is = ap (take (p.len / 4)) is ∙ take_at (floats_in file p) rest (p.len / 4) (floats_long file p.start (p.len / 4))
