-- `nodata::nan` meets its contract: the quotient of two zeros is computed. Assumes nothing.
use mathlib.Core.Path.{refl}
use lib.Ieee.{div, of_bits}
use Rattle.binary32.proofs.nodata.nan.Goals as goal

pub returns : goal.returns
unfolding div of_bits
returns c = refl
