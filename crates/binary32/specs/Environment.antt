-- What a processor that is set otherwise does not do: subnormal numbers, and rounding to nearest even. Definitions only.
use Rattle.std.specs.Prelude.{Bool, ◌&&◌, eqb, Float}
use Rattle.std.specs.Float.{binary32}
use Rattle.std.specs.Float.Ieee.{add, of_bits, to_bits}

-- The least float above 0, the distance from 1 to the next float, and half of it.
abbrev pub least : Float
least = of_bits binary32 0x0000_0001

abbrev pub after_one : Float
after_one = of_bits binary32 0x3400_0000

abbrev pub half_after_one : Float
half_after_one = of_bits binary32 0x3380_0000

-- Twice the least float is the next one, and not 0.
abbrev pub keeps_small : Float → Bool
keeps_small x = eqb (to_bits binary32 (add binary32 x x)) 2

-- Halfway from 1 to the next float is 1, the even one, and halfway from there on is the one after, which is even too.
abbrev pub rounds_down : Float → Bool
rounds_down x = eqb (to_bits binary32 (add binary32 x half_after_one)) 0x3f80_0000

abbrev pub rounds_up : Float → Bool
rounds_up x = eqb (to_bits binary32 (add binary32 (add binary32 x after_one) half_after_one)) 0x3f80_0002

abbrev pub rounds_to_nearest : Float → Bool
rounds_to_nearest x = rounds_down x && rounds_up x

-- Both, of the numbers that were given for 1 and for the least float.
abbrev pub keeps_binary32 : Float → Float → Bool
keeps_binary32 x y = keeps_small y && rounds_to_nearest x
