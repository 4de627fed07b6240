-- The numbers that the rules name, and nodata of bytes. Definitions only.
use Rattle.std.specs.Prelude.{Bool, false, not, ◌&&◌, ℕ, eqb, pos, Float}
use Rattle.std.specs.Float.{inf, binary32}
use Rattle.std.specs.Float.Ieee.{of_bits, of_int, div}

abbrev pub infinity : Float
infinity = inf false

-- The largest f32 divided by 4.
abbrev pub quarter_of_largest : Float
quarter_of_largest = div binary32 (of_bits binary32 0x7f7f_ffff) (of_bits binary32 0x4080_0000)

-- A whole number as an f32.
abbrev pub whole : ℕ → Float
whole k = of_int binary32 (pos k)

-- In byte grids 255 is nodata.
abbrev pub nodata_byte : ℕ → Bool
nodata_byte b = eqb b 255

-- A target is a cell whose target byte is nonzero and not 255.
abbrev pub target_byte : ℕ → Bool
target_byte b = not (eqb b 0) && not (nodata_byte b)
