-- `scaling::settle` meets its contract. What is stored is what stood there: the logic has one NaN. Assumes nothing.
use Rattle.std.proofs.Common.{◌∙◌, ap}
use Rattle.std.proofs.lemmas.List.{set-get_or}
use Rattle.std.specs.Float.{nan}
use Rattle.std.proofs.Math.ListN.{set}
use Rattle.calls.proofs.scaling.settle.Goals as goal

pub loop-cell-preserved : goal.loop-cell-preserved
loop-cell-preserved c =
    let at = c.loop-cell in
    ap (set at.answer at.cell-index) c.one_nan.ensures ∙ set-get_or at.answer at.cell-index nan ∙ at.invariant
