-- `nodata::one_nan` meets its contract. Where the test passed, x is the one NaN, which `nan` gives. Assumes nothing.
use mathlib.Core.Path.{sym, ◌∙◌}
use Rattle.binary32.proofs.NotANumber.{isNan→nan}
use Rattle.binary32.proofs.nodata.one_nan.Goals as goal

pub returns-then-is_nodata : goal.returns-then-is_nodata
returns-then-is_nodata c = c.nan.ensures ∙ sym (isNan→nan c.args.x (sym c.is_nodata.ensures ∙ c.if-is_nodata.true))
