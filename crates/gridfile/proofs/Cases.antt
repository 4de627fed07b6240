-- Files and what the definitions read in them, and answers and their bytes: all of it computed. Assumes nothing.
use mathlib.Core.Path.{◌≡◌, refl}
use mathlib.Core.Bool.{true, false}
use mathlib.Core.List.{List, [], ◌∷◌, ◌++◌, map}
use Prim.Native.Nat.{ℕ}
use lib.IntN.{pos}
use lib.ListN.{length, replicate}
use lib.Ieee.{Float, nan, inf, binary32, of_bits, to_bits}
use Rattle.rules.specs.declared.BarrierDiagonals.TheVariants.{Include, Exclude}
use Rattle.rules.specs.declared.Size.{Size}
use Rattle.rules.specs.declared.Spacing.{Spacing}
use Rattle.rules.specs.Sizes.{any, Outcome, refused, accepted, number, number_at}
use Rattle.gridfile.specs.Fields.{fields_after, rising, content_of}
use Rattle.gridfile.specs.Request.{grids_of, head_fits, grids_fit, same, judged}
use Rattle.gridfile.specs.Contents.{floats_from, Asked, refuses, asks, asked}
use Rattle.gridfile.specs.Answers.{little_endian, float_bytes, field_head, answer_file}

-- `unfolding file_computing` opens every definition of the file form.
unfoldable pub file_computing : Unit {0}
unfolding of_bits to_bits fields_after rising content_of any grids_of head_fits grids_fit same judged floats_from little_endian float_bytes
file_computing = tt

-- ---- how the cases are written

abbrev pub Bytes : Type 0
Bytes = List ℕ

-- A field, and the three that every file has: 01 with its three bytes, 02 with two u16, 03 with two f32.
abbrev pub field_bytes : ℕ → Bytes → Bytes
field_bytes tag content = field_head tag (length content) ++ content

abbrev sized : ℕ → ℕ → Bytes
sized rows cols = field_bytes 0x02 (little_endian 2 rows ++ little_endian 2 cols)

abbrev numbers : ℕ → ℕ → Bytes
numbers cell_size limit = field_bytes 0x03 (little_endian 4 cell_size ++ little_endian 4 limit)

-- A file of a search on a grid of 1 by 2 cells, with zeros for the flags and the numbers.
abbrev plain : ℕ → Bytes → Bytes
plain search grids = field_bytes 0x01 (search ∷ 0 ∷ 0 ∷ []) ++ sized 1 2 ++ numbers 0 0 ++ grids

-- One of search 1 with other flags, size or numbers.
abbrev with_flags : ℕ → ℕ → ℕ → Bytes
with_flags search diagonals adjacent = field_bytes 0x01 (search ∷ diagonals ∷ adjacent ∷ []) ++ sized 1 2 ++ numbers 0 0 ++ field_bytes 0x04 (1 ∷ 0 ∷ [])

abbrev with_size : ℕ → ℕ → Bytes
with_size rows cols = field_bytes 0x01 (1 ∷ 0 ∷ 0 ∷ []) ++ sized rows cols ++ numbers 0 0 ++ field_bytes 0x04 (1 ∷ 0 ∷ [])

abbrev with_numbers : ℕ → ℕ → ℕ → Bytes → Bytes
with_numbers search cell_size limit grids = field_bytes 0x01 (search ∷ 0 ∷ 0 ∷ []) ++ sized 1 2 ++ numbers cell_size limit ++ grids

abbrev targets : Bytes
targets = field_bytes 0x04 (1 ∷ 0 ∷ [])

abbrev obstacles : Bytes
obstacles = field_bytes 0x05 (0 ∷ 255 ∷ [])

-- 1.0 and NaN with its sign and a payload; 2.0 and minus zero.
abbrev times : Bytes
times = field_bytes 0x06 (0x00 ∷ 0x00 ∷ 0x80 ∷ 0x3f ∷ 0x01 ∷ 0x00 ∷ 0xc0 ∷ 0xff ∷ [])

abbrev values : Bytes
values = field_bytes 0x07 (0x00 ∷ 0x00 ∷ 0x00 ∷ 0x40 ∷ 0x00 ∷ 0x00 ∷ 0x00 ∷ 0x80 ∷ [])

abbrev float : ℕ → Float
float bits = of_bits binary32 bits

abbrev size : ℕ → ℕ → Size
size rows cols = record { rows = pos rows; cols = pos cols }

abbrev spacing : ℕ → ℕ → Spacing
spacing cell_size limit = record { cell_size = float cell_size; limit = float limit }

abbrev asks_plain : ℕ → (targets obstacles : List ℕ) → (times values : List Float) → Asked
asks_plain search ts os times values = asks search Include false (size 1 2) (spacing 0 0) ts os times values

abbrev Entry : Type 0
Entry = Bytes × Asked

-- ---- accepted

-- Document 01's whole case.
abbrev pub case_file : Bytes
case_file = 0x01 ∷ 0x03 ∷ 0x00 ∷ 0x02 ∷ 0x00 ∷ 0x00 ∷ 0x02 ∷ 0x04 ∷ 0x00 ∷ 0x02 ∷ 0x00 ∷ 0x02 ∷ 0x00 ∷ 0x03 ∷ 0x08 ∷ 0x00 ∷ 0x00 ∷ 0x00 ∷ 0x20 ∷ 0x41 ∷ 0x00 ∷ 0x00 ∷ 0x00 ∷ 0x00 ∷ 0x04 ∷ 0x04 ∷ 0x00 ∷ 0x01 ∷ 0x00 ∷ 0x00 ∷ 0x00 ∷ 0x05 ∷ 0x04 ∷ 0x00 ∷ 0x00 ∷ 0x01 ∷ 0x01 ∷ 0x00 ∷ []

abbrev good_files : List Entry
good_files =
    (case_file, asks 2 Include false (size 2 2) (spacing 0x4120_0000 0) (1 ∷ 0 ∷ 0 ∷ 0 ∷ []) (0 ∷ 1 ∷ 1 ∷ 0 ∷ []) [] []) ∷
    -- each search has its grids
    (plain 1 targets, asks_plain 1 (1 ∷ 0 ∷ []) [] [] []) ∷
    (plain 2 (targets ++ obstacles), asks_plain 2 (1 ∷ 0 ∷ []) (0 ∷ 255 ∷ []) [] []) ∷
    (plain 3 (targets ++ times), asks_plain 3 (1 ∷ 0 ∷ []) [] (float 0x3f80_0000 ∷ nan ∷ []) []) ∷
    (plain 4 (targets ++ values), asks_plain 4 (1 ∷ 0 ∷ []) [] [] (float 0x4000_0000 ∷ float 0x8000_0000 ∷ [])) ∷
    (plain 5 (targets ++ times ++ values), asks_plain 5 (1 ∷ 0 ∷ []) [] (float 0x3f80_0000 ∷ nan ∷ []) (float 0x4000_0000 ∷ float 0x8000_0000 ∷ [])) ∷
    (plain 6 (targets ++ times ++ values), asks_plain 6 (1 ∷ 0 ∷ []) [] (float 0x3f80_0000 ∷ nan ∷ []) (float 0x4000_0000 ∷ float 0x8000_0000 ∷ [])) ∷
    (plain 7 (targets ++ times ++ values), asks_plain 7 (1 ∷ 0 ∷ []) [] (float 0x3f80_0000 ∷ nan ∷ []) (float 0x4000_0000 ∷ float 0x8000_0000 ∷ [])) ∷
    (plain 8 (times ++ values), asks_plain 8 [] [] (float 0x3f80_0000 ∷ nan ∷ []) (float 0x4000_0000 ∷ float 0x8000_0000 ∷ [])) ∷
    -- the flags where they are used
    (with_flags 2 1 0 ++ obstacles, asks 2 Exclude false (size 1 2) (spacing 0 0) (1 ∷ 0 ∷ []) (0 ∷ 255 ∷ []) [] []) ∷
    (with_flags 7 0 1 ++ times ++ values, asks 7 Include true (size 1 2) (spacing 0 0) (1 ∷ 0 ∷ []) [] (float 0x3f80_0000 ∷ nan ∷ []) (float 0x4000_0000 ∷ float 0x8000_0000 ∷ [])) ∷
    -- any bits are a number that is used
    (with_numbers 1 0x8000_0000 0xffff_ffff targets, asks 1 Include false (size 1 2) (spacing 0x8000_0000 0x7fc0_0000) (1 ∷ 0 ∷ []) [] [] []) ∷
    -- the limit of each search that has one
    (with_numbers 3 0 0x4080_0000 (targets ++ times), asks 3 Include false (size 1 2) (spacing 0 0x4080_0000) (1 ∷ 0 ∷ []) [] (float 0x3f80_0000 ∷ nan ∷ []) []) ∷
    (with_numbers 6 0 0x4080_0000 (targets ++ times ++ values), asks 6 Include false (size 1 2) (spacing 0 0x4080_0000) (1 ∷ 0 ∷ []) [] (float 0x3f80_0000 ∷ nan ∷ []) (float 0x4000_0000 ∷ float 0x8000_0000 ∷ [])) ∷
    (with_numbers 7 0 0x4080_0000 (targets ++ times ++ values), asks 7 Include false (size 1 2) (spacing 0 0x4080_0000) (1 ∷ 0 ∷ []) [] (float 0x3f80_0000 ∷ nan ∷ []) (float 0x4000_0000 ∷ float 0x8000_0000 ∷ [])) ∷
    (with_numbers 8 0 0x4080_0000 (times ++ values), asks 8 Include false (size 1 2) (spacing 0 0x4080_0000) [] [] (float 0x3f80_0000 ∷ nan ∷ []) (float 0x4000_0000 ∷ float 0x8000_0000 ∷ [])) ∷
    -- lengths other than n are for the library to refuse, and so are sides that it does not have
    (plain 1 (field_bytes 0x04 []), asks_plain 1 [] [] [] []) ∷
    (plain 1 (field_bytes 0x04 (1 ∷ 2 ∷ 3 ∷ [])), asks_plain 1 (1 ∷ 2 ∷ 3 ∷ []) [] [] []) ∷
    (plain 3 (targets ++ field_bytes 0x06 (0x00 ∷ 0x00 ∷ 0x80 ∷ 0x3f ∷ [])), asks_plain 3 (1 ∷ 0 ∷ []) [] (float 0x3f80_0000 ∷ []) []) ∷
    (with_size 0 32768, asks 1 Include false (size 0 32768) (spacing 0 0) (1 ∷ 0 ∷ []) [] [] []) ∷
    (with_size 65535 0, asks 1 Include false (size 65535 0) (spacing 0 0) (1 ∷ 0 ∷ []) [] [] []) ∷
    (with_size 1 1024, asks 1 Include false (size 1 1024) (spacing 0 0) (1 ∷ 0 ∷ []) [] [] []) ∷
    (with_size 32 32, asks 1 Include false (size 32 32) (spacing 0 0) (1 ∷ 0 ∷ []) [] [] []) ∷
    (plain 1 (field_bytes 0x04 (replicate 4096 7)), asks_plain 1 (replicate 4096 7) [] [] []) ∷ []

pub good_files_read : map (λ (e : Entry). asked e.0) good_files ≡ map (λ (e : Entry). e.1) good_files
unfolding file_computing
good_files_read = refl

-- ---- refusal 8

abbrev zeros : ℕ → Bytes
zeros n = replicate n 0

abbrev bad_files : List Bytes
bad_files =
    -- 01, 02, 03 always
    [] ∷
    (sized 1 2 ++ numbers 0 0 ++ targets) ∷
    (field_bytes 0x01 (1 ∷ 0 ∷ 0 ∷ []) ++ numbers 0 0 ++ targets) ∷
    (field_bytes 0x01 (1 ∷ 0 ∷ 0 ∷ []) ++ sized 1 2 ++ targets) ∷
    field_bytes 0x01 (1 ∷ 0 ∷ 0 ∷ []) ∷
    -- of 3, 4 and 8 bytes
    (field_bytes 0x01 (1 ∷ 0 ∷ []) ++ sized 1 2 ++ numbers 0 0 ++ targets) ∷
    (field_bytes 0x01 (1 ∷ 0 ∷ 0 ∷ 0 ∷ []) ++ sized 1 2 ++ numbers 0 0 ++ targets) ∷
    (field_bytes 0x01 (1 ∷ 0 ∷ 0 ∷ []) ++ field_bytes 0x02 (1 ∷ 0 ∷ 2 ∷ []) ++ numbers 0 0 ++ targets) ∷
    (field_bytes 0x01 (1 ∷ 0 ∷ 0 ∷ []) ++ sized 1 2 ++ field_bytes 0x03 (zeros 4) ++ targets) ∷
    -- tags rise
    (sized 1 2 ++ field_bytes 0x01 (1 ∷ 0 ∷ 0 ∷ []) ++ numbers 0 0 ++ targets) ∷
    plain 2 (obstacles ++ targets) ∷
    -- each at most once
    plain 1 (targets ++ targets) ∷
    plain 2 (targets ++ obstacles ++ obstacles) ∷
    -- exactly the search's grids: one missing, one too many, a tag that no search has
    plain 1 [] ∷
    plain 2 targets ∷
    plain 8 times ∷
    plain 1 (targets ++ obstacles) ∷
    plain 8 (targets ++ times ++ values) ∷
    -- another grid in the place of one of them
    plain 1 (field_bytes 0x05 (1 ∷ 0 ∷ [])) ∷
    plain 2 (targets ++ times) ∷
    plain 3 (targets ++ obstacles) ∷
    plain 3 (targets ++ values) ∷
    plain 4 (targets ++ times) ∷
    plain 5 (targets ++ obstacles ++ values) ∷
    plain 8 (targets ++ times) ∷
    plain 1 (targets ++ field_bytes 0x08 []) ∷
    (field_bytes 0x00 [] ++ plain 1 targets) ∷
    -- another tag in the place of 01, 02 or 03
    (field_bytes 0x00 (1 ∷ 0 ∷ 0 ∷ []) ++ sized 1 2 ++ numbers 0 0 ++ targets) ∷
    (field_bytes 0x01 (1 ∷ 0 ∷ 0 ∷ []) ++ field_bytes 0x03 (1 ∷ 0 ∷ 2 ∷ 0 ∷ []) ++ field_bytes 0x04 (zeros 8) ++ targets) ∷
    -- a search or flag outside its range, a search also where no grid follows
    plain 0 [] ∷
    plain 9 [] ∷
    with_flags 0 0 0 ∷
    with_flags 9 0 0 ∷
    (with_flags 2 2 0 ++ obstacles) ∷
    (with_flags 7 0 2 ++ times ++ values) ∷
    -- unused flags are zero
    with_flags 1 1 0 ∷
    (with_flags 3 1 0 ++ times) ∷
    (with_flags 4 1 0 ++ values) ∷
    (with_flags 5 1 0 ++ times ++ values) ∷
    (with_flags 6 1 0 ++ times ++ values) ∷
    (with_flags 7 1 0 ++ times ++ values) ∷
    (field_bytes 0x01 (8 ∷ 1 ∷ 0 ∷ []) ++ sized 1 2 ++ numbers 0 0 ++ times ++ values) ∷
    with_flags 1 0 1 ∷
    (with_flags 2 0 1 ++ obstacles) ∷
    (with_flags 3 0 1 ++ times) ∷
    (with_flags 4 0 1 ++ values) ∷
    (with_flags 5 0 1 ++ times ++ values) ∷
    (with_flags 6 0 1 ++ times ++ values) ∷
    (field_bytes 0x01 (8 ∷ 0 ∷ 1 ∷ []) ++ sized 1 2 ++ numbers 0 0 ++ times ++ values) ∷
    -- unused numbers are zero bytes, and minus zero is not
    with_numbers 3 0x3f80_0000 0 (targets ++ times) ∷
    with_numbers 3 0x8000_0000 0 (targets ++ times) ∷
    with_numbers 4 1 0 (targets ++ values) ∷
    with_numbers 5 1 0 (targets ++ times ++ values) ∷
    with_numbers 6 1 0 (targets ++ times ++ values) ∷
    with_numbers 7 1 0 (targets ++ times ++ values) ∷
    with_numbers 8 1 0 (times ++ values) ∷
    with_numbers 2 0x3f80_0000 0x8000_0000 (targets ++ obstacles) ∷
    with_numbers 4 0 0x3f80_0000 (targets ++ values) ∷
    with_numbers 5 0 1 (targets ++ times ++ values) ∷
    -- a cut field: in its head, in its content, and the last one
    (0x01 ∷ []) ∷
    (0x01 ∷ 0x03 ∷ []) ∷
    (0x01 ∷ 0x03 ∷ 0x00 ∷ 0x01 ∷ 0x00 ∷ []) ∷
    plain 1 (0x04 ∷ []) ∷
    plain 1 (0x04 ∷ 0x02 ∷ []) ∷
    plain 1 (0x04 ∷ 0x02 ∷ 0x00 ∷ 0x01 ∷ []) ∷
    -- a length whose bytes are the other way round
    plain 1 (0x04 ∷ 0x00 ∷ 0x02 ∷ 0x01 ∷ 0x00 ∷ []) ∷
    -- a float field that is no multiple of 4
    plain 3 (targets ++ field_bytes 0x06 (zeros 6)) ∷
    plain 4 (targets ++ field_bytes 0x07 (zeros 1)) ∷
    -- a grid field over 4,096 bytes
    plain 1 (field_bytes 0x04 (zeros 4097)) ∷
    plain 2 (targets ++ field_bytes 0x05 (zeros 4097)) ∷
    plain 3 (targets ++ field_bytes 0x06 (zeros 4100)) ∷
    plain 4 (targets ++ field_bytes 0x07 (zeros 4100)) ∷
    -- n above 1,024
    with_size 1025 1 ∷
    with_size 32 33 ∷
    with_size 1 32768 ∷
    with_size 65535 65535 ∷
    -- anything after the last field
    plain 1 (targets ++ (0x00 ∷ [])) ∷
    (case_file ++ (0x00 ∷ [])) ∷ []

pub bad_files_refused : map asked bad_files ≡ map (λ (file : Bytes). refuses (number 8)) bad_files
unfolding file_computing
bad_files_refused = refl

-- ---- answers

-- Document 01's whole case: 2 takes, and 0, infinity, infinity, 14.142136 in the grid.
abbrev pub case_answer : Bytes
case_answer = 0x10 ∷ 0x01 ∷ 0x00 ∷ 0x00 ∷ 0x12 ∷ 0x08 ∷ 0x00 ∷ 0x02 ∷ 0x00 ∷ 0x00 ∷ 0x00 ∷ 0x00 ∷ 0x00 ∷ 0x00 ∷ 0x00 ∷ 0x13 ∷ 0x10 ∷ 0x00 ∷ 0x00 ∷ 0x00 ∷ 0x00 ∷ 0x00 ∷ 0x00 ∷ 0x00 ∷ 0x80 ∷ 0x7f ∷ 0x00 ∷ 0x00 ∷ 0x80 ∷ 0x7f ∷ 0x30 ∷ 0x46 ∷ 0x62 ∷ 0x41 ∷ []

pub whole_answer : answer_file (accepted 2 (float 0 ∷ inf false ∷ inf false ∷ float 0x4162_4630 ∷ [])) ≡ case_answer
unfolding file_computing
whole_answer = refl

-- A refusal without an index, one with it, an empty grid, the largest takes, and NaN.
abbrev answers : List (Outcome × Bytes)
answers =
    (refused (number 8), 0x10 ∷ 0x01 ∷ 0x00 ∷ 0x08 ∷ []) ∷
    (refused (number_at 6 258), 0x10 ∷ 0x01 ∷ 0x00 ∷ 0x06 ∷ 0x11 ∷ 0x04 ∷ 0x00 ∷ 0x02 ∷ 0x01 ∷ 0x00 ∷ 0x00 ∷ []) ∷
    (accepted 0 [], 0x10 ∷ 0x01 ∷ 0x00 ∷ 0x00 ∷ 0x12 ∷ 0x08 ∷ 0x00 ∷ 0 ∷ 0 ∷ 0 ∷ 0 ∷ 0 ∷ 0 ∷ 0 ∷ 0 ∷ 0x13 ∷ 0x00 ∷ 0x00 ∷ []) ∷ (
      accepted 18446744073709551615 (nan ∷ []),
      0x10 ∷ 0x01 ∷ 0x00 ∷ 0x00 ∷ 0x12 ∷ 0x08 ∷ 0x00 ∷ 0xff ∷ 0xff ∷ 0xff ∷ 0xff ∷ 0xff ∷ 0xff ∷ 0xff ∷ 0xff ∷ 0x13 ∷ 0x04 ∷ 0x00 ∷ 0x00 ∷ 0x00 ∷ 0xc0 ∷ 0x7f ∷ [],
    ) ∷ []

pub answers_made : map (λ (e : Outcome × Bytes). answer_file e.0) answers ≡ map (λ (e : Outcome × Bytes). e.1) answers
unfolding file_computing
answers_made = refl
