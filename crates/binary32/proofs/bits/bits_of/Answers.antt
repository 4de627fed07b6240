-- `bits::bits_of` meets its contract. Of the logic's one NaN, `to_bits` gives the pattern of an answer's. Assumes nothing.
use mathlib.Core.Path.{sym, ap, ◌∙◌}
use lib.Ieee.{binary32, to_bits}
use Rattle.binary32.proofs.NotANumber.{isNan→nan}
use Rattle.binary32.proofs.bits.bits_of.Goals as goal

pub returns-then-is_nodata : goal.returns-then-is_nodata
unfolding to_bits
returns-then-is_nodata c = sym (ap (to_bits binary32) (isNan→nan c.args.x (sym c.is_nodata.ensures ∙ c.if-is_nodata.true)))
