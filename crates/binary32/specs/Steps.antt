-- The lengths of the two steps, in cells. Definitions only.
use Rattle.std.specs.Prelude.{Float}
use Rattle.std.specs.Float.{binary32}
use Rattle.std.specs.Float.Ieee.{of_bits}

-- A straight step, to a neighbour that shares an edge, has the length 1.
abbrev pub straight : Float
straight = of_bits binary32 0x3f80_0000

-- A diagonal step, to a neighbour that shares a corner, has the length 1.41421353816986083984375.
abbrev pub diagonal : Float
diagonal = of_bits binary32 0x3fb5_04f3
