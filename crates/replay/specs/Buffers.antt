-- How long a buffer is, and what a comparison shows. Definitions only.
use Rattle.std.specs.Prelude.{ℕ, Bool, cond, ◌<◌, ◌≡◌, List, length, get_or, Float}
use Rattle.std.specs.Float.{nan, binary32}
use Rattle.std.specs.Float.Ieee.{to_bits}

-- The most cells of an answer.
abbrev pub most_answer_cells : ℕ
most_answer_cells = 1024

-- The most cells of a stored grid: one more.
abbrev pub most_stored_cells : ℕ
most_stored_cells = 1025

-- Every cell has the bits v. Past the cells stands some cell that nothing is said of.
abbrev pub AllHold : {X : Type 0} → (X → ℕ) → X → List X → ℕ → Type 0
AllHold bits past cells v = (k : ℕ) → k < length cells → bits (get_or cells k past) ≡ v

-- Every cell is v.
abbrev pub AllAre : List ℕ → ℕ → Type 0
AllAre cells v = (k : ℕ) → k < length cells → get_or cells k 0 ≡ v

-- The bits of the float in cell k.
abbrev pub bits_at : List Float → ℕ → ℕ
bits_at cells k = to_bits binary32 (get_or cells k nan)

-- Every float has these bits.
abbrev pub AllHave : List Float → ℕ → Type 0
AllHave cells bits = (k : ℕ) → k < length cells → bits_at cells k ≡ bits

-- The floats have these bits, one for one.
pub record SameBits (cells : List Float) (bits : List ℕ) : Type 0 where
  pub as_long : length cells ≡ length bits
  pub each : (k : ℕ) → k < length cells → bits_at cells k ≡ get_or bits k 0

-- The bits that each byte, index and float of a lent buffer has before the call: the float is -77.25.
abbrev pub dirty_byte : ℕ
dirty_byte = 0xA5

abbrev pub dirty_word : ℕ
dirty_word = 0xA5A5_A5A5

abbrev pub dirty_float : ℕ
dirty_float = 0xC29A_8000

-- What each cell of a work buffer has after a call: 0 where the call cleared it, and else what it had before.
abbrev pub left_of : ℕ → Bool → ℕ
left_of dirty cleared = cond cleared 0 dirty
