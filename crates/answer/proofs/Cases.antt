-- Files, and the bytes of their answers, computed by the definitions. Assumes nothing.
use mathlib.Core.Path.{◌≡◌, refl}
use mathlib.Core.List.{List, [], ◌∷◌, ◌++◌, map}
use Prim.Native.Nat.{ℕ}
use lib.ListN.{replicate}
use Rattle.rules.specs.Computing.{rules_computing}
use Rattle.gridfile.specs.Answers.{little_endian}
use Rattle.gridfile.proofs.Cases.{file_computing, Bytes, field_bytes, case_file, case_answer}
use Rattle.answer.specs.Answering.{searched, answer_to}

-- Document 01's whole case.
pub whole_case : answer_to case_file ≡ case_answer
unfolding searched rules_computing file_computing
whole_case = refl

-- ---- document 01's small grids, and refusals, as files

-- A file, and what is answered to it.
abbrev Entry : Type 0
Entry = Bytes × Bytes

-- Floats by their bits.
abbrev bits : List ℕ → Bytes
bits [] = []
bits (b ∷ rest) = little_endian 4 b ++ bits rest

-- A file with this search, these flags, this size, and these bits of the cell size and the limit.
abbrev asking : (search diagonals adjacent rows cols cell_size limit : ℕ) → Bytes → Bytes
asking search diagonals adjacent rows cols cell_size limit grids =
    field_bytes 0x01 (search ∷ diagonals ∷ adjacent ∷ []) ++ field_bytes 0x02 (little_endian 2 rows ++ little_endian 2 cols) ++ field_bytes 0x03 (bits (cell_size ∷ limit ∷ [])) ++ grids

-- The answers.
abbrev refusal : ℕ → Bytes
refusal k = field_bytes 0x10 (k ∷ [])

abbrev refusal_at : ℕ → ℕ → Bytes
refusal_at k i = field_bytes 0x10 (k ∷ []) ++ field_bytes 0x11 (little_endian 4 i)

abbrev takes_and_answer : ℕ → List ℕ → Bytes
takes_and_answer t cells = field_bytes 0x10 (0 ∷ []) ++ field_bytes 0x12 (little_endian 8 t) ++ field_bytes 0x13 (bits cells)

-- 0x3f800000 is 1, 0x40000000 2, 0x40400000 3, 0x40800000 4, 0x40a00000 5, 0x40e00000 7, 0x41100000 9, 0x41800000 16, 0x7f800000 infinity.
abbrev cases : List Entry
cases =
    -- the program's own refusal, before anything else
    ([], refusal 8) ∷
    (asking 1 0 0 1 1025 0 0 (field_bytes 0x04 []), refusal 8) ∷
    -- sides that the library does not have, and those that it has, without a cell
    (asking 1 0 0 0 32768 0x3f80_0000 0 (field_bytes 0x04 []), refusal 1) ∷
    (asking 1 0 0 0 32767 0x3f80_0000 0 (field_bytes 0x04 []), takes_and_answer 0 []) ∷
    -- a grid that has not n cells: one more, and 4,096
    (asking 1 0 0 1 2 0x3f80_0000 0 (field_bytes 0x04 (1 ∷ 0 ∷ 0 ∷ [])), refusal 3) ∷
    (asking 1 0 0 1 2 0x3f80_0000 0 (field_bytes 0x04 (replicate 4096 1)), refusal 3) ∷
    -- a cell size of 0, a limit that is NaN, and a negative time at cell 1
    (asking 2 0 0 1 2 0 0 (field_bytes 0x04 (1 ∷ 0 ∷ []) ++ field_bytes 0x05 (0 ∷ 0 ∷ [])), refusal 4) ∷
    (asking 3 0 0 1 2 0 0x7fc0_0001 (field_bytes 0x04 (1 ∷ 0 ∷ []) ++ field_bytes 0x06 (bits (0x4000_0000 ∷ 0x4080_0000 ∷ []))), refusal 5) ∷
    (asking 5 0 0 1 2 0 0 (field_bytes 0x04 (1 ∷ 0 ∷ []) ++ field_bytes 0x06 (bits (0x8000_0000 ∷ 0xbf80_0000 ∷ [])) ++ field_bytes 0x07 (bits (0 ∷ 0 ∷ []))), refusal_at 6 1) ∷
    -- A and B
    (asking 1 0 0 1 3 0x3f80_0000 0x7f80_0000 (field_bytes 0x04 (1 ∷ 0 ∷ 0 ∷ [])), takes_and_answer 3 (0 ∷ 0x3f80_0000 ∷ 0x4000_0000 ∷ [])) ∷
    (asking 1 0 0 1 3 0x3f80_0000 0x4000_0000 (field_bytes 0x04 (1 ∷ 0 ∷ 0 ∷ [])), takes_and_answer 2 (0 ∷ 0x3f80_0000 ∷ 0x4000_0000 ∷ [])) ∷
    -- C: Exclude
    (asking 2 1 0 2 2 0x3f80_0000 0 (field_bytes 0x04 (1 ∷ 0 ∷ 0 ∷ 0 ∷ []) ++ field_bytes 0x05 (0 ∷ 1 ∷ 1 ∷ 0 ∷ [])), takes_and_answer 1 (0 ∷ 0x7f80_0000 ∷ 0x7f80_0000 ∷ 0x7f80_0000 ∷ [])) ∷
    -- E
    (asking 3 0 0 1 2 0 0x7f80_0000 (field_bytes 0x04 (1 ∷ 0 ∷ []) ++ field_bytes 0x06 (bits (0x4000_0000 ∷ 0x4080_0000 ∷ []))), takes_and_answer 2 (0 ∷ 0x4040_0000 ∷ [])) ∷
    -- G and F
    (asking 4 0 0 1 2 0 0 (field_bytes 0x04 (255 ∷ 0 ∷ []) ++ field_bytes 0x07 (bits (0x40e0_0000 ∷ 0x4110_0000 ∷ []))), takes_and_answer 0 (0 ∷ 0 ∷ [])) ∷
    (asking 5 0 0 1 2 0 0 (field_bytes 0x04 (255 ∷ 0 ∷ []) ++ field_bytes 0x06 (bits (0x4000_0000 ∷ 0x4080_0000 ∷ [])) ++ field_bytes 0x07 (bits (0x40e0_0000 ∷ 0x4110_0000 ∷ []))), takes_and_answer 2 (0x40e0_0000 ∷ 0x40e0_0000 ∷ [])) ∷
    -- H: the limit 4
    (asking 6 0 0 1 2 0 0x4080_0000 (field_bytes 0x04 (1 ∷ 0 ∷ []) ++ field_bytes 0x06 (bits (0x4000_0000 ∷ 0x4080_0000 ∷ [])) ++ field_bytes 0x07 (bits (0x40e0_0000 ∷ 0x4110_0000 ∷ []))), takes_and_answer 1 (0x40e0_0000 ∷ 0 ∷ [])) ∷
    -- I: the budget 2.5, and J: adjacent
    (asking 7 0 0 1 2 0 0x4020_0000 (field_bytes 0x04 (1 ∷ 0 ∷ []) ++ field_bytes 0x06 (bits (0x4000_0000 ∷ 0x4080_0000 ∷ [])) ++ field_bytes 0x07 (bits (0x40e0_0000 ∷ 0x4110_0000 ∷ []))), refusal_at 7 0) ∷
    (asking 7 0 1 1 2 0 0x4040_0000 (field_bytes 0x04 (1 ∷ 0 ∷ []) ++ field_bytes 0x06 (bits (0x4000_0000 ∷ 0xffc0_0001 ∷ [])) ++ field_bytes 0x07 (bits (0x40e0_0000 ∷ 0x4110_0000 ∷ []))), takes_and_answer 1 (0x4180_0000 ∷ 0 ∷ [])) ∷
    -- K: the budget 3.5
    (asking 8 0 0 1 2 0 0x4060_0000 (field_bytes 0x06 (bits (0x4000_0000 ∷ 0x4080_0000 ∷ [])) ++ field_bytes 0x07 (bits (0x40a0_0000 ∷ 0 ∷ []))), takes_and_answer 2 (0x40a0_0000 ∷ 0 ∷ [])) ∷ []

pub answered : map (λ (e : Entry). answer_to e.0) cases ≡ map (λ (e : Entry). e.1) cases
unfolding searched rules_computing file_computing
answered = refl
