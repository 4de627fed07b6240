-- `amounts::counts` meets its contract. Assumes nothing.
use mathlib.Core.Bool.{not}
use mathlib.Core.Path.{sym, ap, ◌∙◌}
use lib.Ieee.{ne}
use Rattle.rules.proofs.Tests.{and_then}
use Rattle.sums.proofs.amounts.counts.Goals as goal

pub returns-then-not-is_nodata : goal.returns-then-not-is_nodata
unfolding ne
returns-then-not-is_nodata c = and_then _ _ (ap not (sym c.is_nodata.ensures) ∙ c.if-not-is_nodata.true-raw)
