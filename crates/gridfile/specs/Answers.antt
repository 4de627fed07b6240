-- Document 01, "Grid file and program": the bytes of an answer. Definitions only.
use Rattle.std.specs.Prelude.{◌≡◌, List, [], ◌∷◌, ◌++◌, ℕ, zero, suc, ◌+◌, ◌/◌, ◌%◌, length, drop, Float, Option, Some, None}
use Rattle.std.proofs.lemmas.List.Edits.{sets}
use Rattle.std.specs.Float.{binary32}
use Rattle.std.specs.Float.Ieee.{to_bits}
use Rattle.rules.specs.Sizes.{Refusal, number, number_at, Outcome, refused, accepted}

-- Numbers are little-endian: so many bytes of a number.
unfoldable pub little_endian : ℕ → ℕ → List ℕ
little_endian zero n = []
little_endian (suc count) n = n % 256 ∷ little_endian count (n / 256)

-- Fields: one-byte tag, two-byte length, content.
abbrev pub field_head : ℕ → ℕ → List ℕ
field_head tag len = tag ∷ little_endian 2 len

-- A field whose content is a number, of so many bytes.
abbrev pub number_field : ℕ → ℕ → ℕ → List ℕ
number_field tag count n = field_head tag count ++ little_endian count n

-- Floats as bits. `to_bits` gives 0x7FC00000 for NaN.
unfoldable pub float_bytes : List Float → List ℕ
float_bytes [] = []
float_bytes (x ∷ grid) = little_endian 4 (to_bits binary32 x) ++ float_bytes grid

-- A field whose content is a grid.
abbrev pub grid_field : ℕ → List Float → List ℕ
grid_field tag grid = field_head tag (length (float_bytes grid)) ++ float_bytes grid

-- 10 (status, 0 or refusal); with a refusal that has one, 11 (index, u32); if accepted, 12 (takes, u64) and 13 (grid).
abbrev pub answer_file : Outcome → List ℕ
answer_file (refused (number k)) = number_field 0x10 1 k
answer_file (refused (number_at k index)) = number_field 0x10 1 k ++ number_field 0x11 4 index
answer_file (accepted takes grid) = number_field 0x10 1 0 ++ number_field 0x12 8 takes ++ grid_field 0x13 grid

-- A refusal with its index, if it has one, and the bytes of its answer.
abbrev pub refusal : ℕ → Option ℕ → Refusal
refusal k None = number k
refusal k (Some index) = number_at k index

abbrev pub refusal_len : Option ℕ → ℕ
refusal_len None = 4
refusal_len (Some index) = 11

-- The bytes are stored from a place on, and the answer is the place after them.
pub record Stored (bytes : List ℕ) (at : ℕ) (before after : List ℕ) (next : ℕ) : Type 0 where
  pub held : after ≡ sets before at bytes
  pub place : next ≡ at + length bytes

-- The bytes are at the front of a slice, which is unchanged after them, and the answer is their number.
pub record Written (bytes before after : List ℕ) (count : ℕ) : Type 0 where
  pub held : after ≡ bytes ++ drop (length bytes) before
  pub all : count ≡ length bytes
