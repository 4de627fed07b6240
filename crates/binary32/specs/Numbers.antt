-- Three values of binary32, as the literals 0.0, 1.0 and 2.0 stand for them. Definitions only.
use Rattle.std.specs.Prelude.{Float}
use Rattle.std.specs.Float.{binary32}
use Rattle.std.specs.Float.Ieee.{of_bits}

-- 0, with the sign clear.
abbrev pub plus_zero : Float
plus_zero = of_bits binary32 0x0000_0000

abbrev pub one : Float
one = of_bits binary32 0x3f80_0000

abbrev pub two : Float
two = of_bits binary32 0x4000_0000
